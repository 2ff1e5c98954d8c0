-- What a word is: how the definition reads it follows of that alone, and so does what `clap` does with it
-- (`TurnLemmas`).
use Rattle.std.proofs.Common.{◌≡◌, ◌∙◌, ℕ, Bool, true, false, not, ◌&&◌, nat_eq, List, [], ◌∷◌, ◌++◌, drop}
use Rattle.std.proofs.Common.{codes, Option, Some, None, bytes_eq, option_and_then, if◌then◌else◌, refl, sym}
use Rattle.std.proofs.Common.{ap, ap₂, subst, true≢false, eqb-true}
use Rattle.std.specs.List.{starts_with, before_first, after_first}
use Rattle.clap.specs.Lexer.{has_byte, long_of, short_of}
use Rattle.iri_resolve.proofs.CutLemmas.{before_first-none}
use Rattle.command_words.specs.Words.{Seen, is_barred, is_dashed, read_from, read_value, with_base}
use Rattle.command_words.specs.Words.{with_files, with_format}
use Rattle.command_words.proofs.TextLemmas.{is_equals, bytes_eq-sym, named_before, not_attached, other_byte}
use Rattle.command_words.proofs.TextLemmas.{value_behind}

pub data Key : Type 0 where
  format_key : Key
  base_key : Key

abbrev pub name_of : Key → List ℕ
name_of format_key = codes "format"
name_of base_key = codes "base"

abbrev pub with_key : Key → List ℕ → Seen → Option Seen
with_key format_key = with_format
with_key base_key = with_base

abbrev pub key_of : List ℕ → Option Key
key_of name =
    if bytes_eq (codes "format") name then Some format_key
    else (if bytes_eq (codes "base") name then Some base_key else None)

-- `--`; an option whose value is the next word; an option with its value; another word with a dash; any other
pub data Sort : Type 0 where
  dashes : Sort
  alone : Key → Sort
  attached : Key → List ℕ → Sort
  unknown : Sort
  plain : Sort

abbrev pub with_value : Key → Option (List ℕ) → Sort
with_value k None = alone k
with_value k (Some value) = attached k value

abbrev pub by_key : Option Key → Option (List ℕ) → Sort
by_key None value = unknown
by_key (Some k) value = with_value k value

abbrev pub by_short : Option (List ℕ) → Sort
by_short None = plain
by_short (Some flags) = unknown

abbrev pub by_long : Option (List ℕ × Option (List ℕ)) → Option (List ℕ) → Sort
by_long None short = by_short short
by_long (Some p) short = by_key (key_of p.0) p.1

abbrev pub by_dashes : Bool → Option (List ℕ × Option (List ℕ)) → Option (List ℕ) → Sort
by_dashes true long short = dashes
by_dashes false long short = by_long long short

unfoldable pub sort_of : List ℕ → Sort
sort_of word = by_dashes (bytes_eq word (45 ∷ 45 ∷ [])) (long_of word) (short_of word)

abbrev pub is_plain : Sort → Bool
is_plain plain = true
is_plain _ = false

abbrev pub read_by : Sort → Seen → List ℕ → List (List ℕ) → Option Seen
read_by dashes seen word words = Some (with_files words seen)
read_by (alone k) seen word words = read_value (with_key k) seen words
read_by (attached k value) seen word words =
    option_and_then (λ next. read_from next words) (with_key k value seen)
read_by unknown seen word words = None
read_by plain seen word words = read_from (with_files (word ∷ []) seen) words

pub record IsSorted (word : List ℕ) (sort : Sort) : Type 0 where
  pub dashed : is_dashed word ≡ not (is_plain sort)
  pub reads : (seen : Seen) (words : List (List ℕ))
      → read_from seen (word ∷ words) ≡ read_by sort seen word words

-- ---- words with fewer than two dashes

no_dash : (x : ℕ) (rest : List ℕ) → nat_eq x 45 ≡ false → IsSorted (x ∷ rest) (sort_of (x ∷ rest))
unfolding sort_of read_from
no_dash x rest e =
    let f = other_byte x 45 e in
    record {
      dashed = rw (f, e) refl;
      reads = λ seen words. rw (e, f) (refl {a = read_from (with_files ((x ∷ rest) ∷ []) seen) words});
    }

one_dash : (y : ℕ) (rest : List ℕ) → nat_eq y 45 ≡ false → IsSorted (45 ∷ y ∷ rest) (sort_of (45 ∷ y ∷ rest))
unfolding sort_of read_from
one_dash y rest e =
    let f = other_byte y 45 e in
    record {
      dashed = rw e refl;
      reads = λ seen words. rw (e, f) (refl {a = None});
    }

-- ---- words that begin with two dashes

-- the tests of the definition, in its order
abbrev chain : Bool → Bool → Bool → Bool → List ℕ → List ℕ → Seen → List (List ℕ) → Option Seen
chain is_format is_base has_format has_base format base seen words =
    if is_format then read_value with_format seen words
    else (if is_base then read_value with_base seen words
    else (if has_format then option_and_then (λ next. read_from next words) (with_format format seen)
    else (if has_base then option_and_then (λ next. read_from next words) (with_base base seen)
    else None)))

chain_at : (z : ℕ) (zs : List ℕ) (seen : Seen) (words : List (List ℕ))
    → read_from seen ((45 ∷ 45 ∷ z ∷ zs) ∷ words)
    ≡ chain (bytes_eq (z ∷ zs) (codes "format")) (bytes_eq (z ∷ zs) (codes "base"))
    (starts_with nat_eq (z ∷ zs) (codes "format" ++ 61 ∷ []))
    (starts_with nat_eq (z ∷ zs) (codes "base" ++ 61 ∷ []))
    (drop 7 (z ∷ zs)) (drop 5 (z ∷ zs)) seen words
unfolding read_from
chain_at z zs seen words = refl

abbrev long_sort : List ℕ → Bool → Sort
long_sort rest has =
    by_key (key_of (before_first is_equals rest)) (if has then Some (after_first is_equals rest) else None)

sort_at : (z : ℕ) (zs : List ℕ) → sort_of (45 ∷ 45 ∷ z ∷ zs) ≡ long_sort (z ∷ zs) (has_byte 61 (z ∷ zs))
unfolding sort_of
sort_at z zs = refl

not_plain : (key : Option Key) (value : Option (List ℕ)) → is_plain (by_key key value) ≡ false
not_plain None value = refl
not_plain (Some k) None = refl
not_plain (Some k) (Some value) = refl

module _ (seen : Seen) (word : List ℕ) (words : List (List ℕ)) where
  chain_alone : (b c : Bool) (format base : List ℕ) → chain b c false false format base seen words
      ≡ read_by (by_key (if b then Some format_key else
      (if c then Some base_key else None)) None) seen word words
  chain_alone true c format base = refl
  chain_alone false true format base = refl
  chain_alone false false format base = refl

  chain_attached : (b c : Bool) (format base value : List ℕ) → (b ≡ true → format ≡ value)
      → (c ≡ true → base ≡ value)
      → chain false false b c format base seen words
      ≡ read_by (by_key (if b then Some format_key else (if c then Some base_key else None))
      (Some value)) seen word words
  chain_attached true c format base value f g =
      ap (λ v. option_and_then (λ next. read_from next words) (with_format v seen)) (f refl)
  chain_attached false true format base value f g =
      ap (λ v. option_and_then (λ next. read_from next words) (with_base v seen)) (g refl)
  chain_attached false false format base value f g = refl

  abbrev tested : List ℕ → Option Seen
  tested rest = chain (bytes_eq rest (codes "format")) (bytes_eq rest (codes "base"))
      (starts_with nat_eq rest (codes "format" ++ 61 ∷ []))
      (starts_with nat_eq rest (codes "base" ++ 61 ∷ []))
      (drop 7 rest) (drop 5 rest) seen words

  alone_reads : (rest : List ℕ) → has_byte 61 rest ≡ false
      → tested rest ≡ read_by (long_sort rest (has_byte 61 rest)) seen word words
  alone_reads rest none =
      let format = named_before (codes "format") rest refl
      ∙ ap (λ h. h && bytes_eq (codes "format") (before_first is_equals rest)) none in
      let base = named_before (codes "base") rest refl
      ∙ ap (λ h. h && bytes_eq (codes "base") (before_first is_equals rest)) none in
      let is_format = bytes_eq-sym rest (codes "format") in
      let is_base = bytes_eq-sym rest (codes "base") in
      let whole = sym (before_first-none is_equals rest none) in
      let here : tested rest ≡ chain (bytes_eq (codes "format") rest)
      (bytes_eq (codes "base") rest) false false
      (drop 7 rest) (drop 5 rest) seen words =
      λ i. chain (is_format i) (is_base i) (format i) (base i) (drop 7 rest) (drop 5 rest) seen words in
      here
      ∙ chain_alone (bytes_eq (codes "format") rest) (bytes_eq (codes "base") rest) (drop 7 rest)
      (drop 5 rest)
      ∙ ap₂ (λ (name : List ℕ) (has : Bool). read_by (by_key (key_of name)
      (if has then Some (after_first is_equals rest) else None)) seen word words) whole (sym none)

  attached_reads : (rest : List ℕ) → has_byte 61 rest ≡ true
      → tested rest ≡ read_by (long_sort rest (has_byte 61 rest)) seen word words
  attached_reads rest has =
      let name = before_first is_equals rest in
      let format = named_before (codes "format") rest refl
      ∙ ap (λ h. h && bytes_eq (codes "format") name) has in
      let base = named_before (codes "base") rest refl ∙ ap (λ h. h && bytes_eq (codes "base") name) has in
      let is_format = not_attached rest (codes "format") has refl in
      let is_base = not_attached rest (codes "base") has refl in
      let here : tested rest ≡ chain false false (bytes_eq (codes "format") name)
      (bytes_eq (codes "base") name)
      (drop 7 rest) (drop 5 rest) seen words =
      λ i. chain (is_format i) (is_base i) (format i) (base i) (drop 7 rest) (drop 5 rest) seen words in
      here
      ∙ chain_attached (bytes_eq (codes "format") name) (bytes_eq (codes "base") name) (drop 7 rest)
      (drop 5 rest)
      (after_first is_equals rest) (λ e. value_behind (codes "format") rest refl (format ∙ e))
      (λ e. value_behind (codes "base") rest refl (base ∙ e))
      ∙ ap (λ h. read_by (long_sort rest h) seen word words) (sym has)

  long_reads : (rest : List ℕ) → tested rest ≡ read_by (long_sort rest (has_byte 61 rest)) seen word words
  long_reads rest = go (has_byte 61 rest) refl
    where
      go : (t : Bool) → has_byte 61 rest ≡ t
          → tested rest ≡ read_by (long_sort rest (has_byte 61 rest)) seen word words
      go true e = attached_reads rest e
      go false e = alone_reads rest e

two_dashes : (rest : List ℕ) → IsSorted (45 ∷ 45 ∷ rest) (sort_of (45 ∷ 45 ∷ rest))
unfolding sort_of read_from
two_dashes [] = record {
  dashed = refl;
  reads = λ seen words. refl;
}
two_dashes (z ∷ zs) =
    let word = 45 ∷ 45 ∷ z ∷ zs in
    record {
      dashed = ap not (sym (not_plain (key_of (before_first is_equals (z ∷ zs)))
          (if has_byte 61 (z ∷ zs) then Some (after_first is_equals (z ∷ zs)) else None)));
      reads = λ seen words. chain_at z zs seen words ∙ long_reads seen word words (z ∷ zs)
          ∙ ap (λ sort. read_by sort seen word words) (sym (sort_at z zs));
    }

some_dash : (rest : List ℕ) → is_barred (45 ∷ rest) ≡ false → IsSorted (45 ∷ rest) (sort_of (45 ∷ rest))
some_dash [] free = absurd (true≢false free)
some_dash (y ∷ ys) free = go (nat_eq y 45) refl
  where
    go : (t : Bool) → nat_eq y 45 ≡ t → IsSorted (45 ∷ y ∷ ys) (sort_of (45 ∷ y ∷ ys))
    go true e =
        subst (λ x. IsSorted (45 ∷ x ∷ ys) (sort_of (45 ∷ x ∷ ys))) (sym (eqb-true y 45 e)) (two_dashes ys)
    go false e = one_dash y ys e

-- a word that may stand is read by its sort
pub sorted : (word : List ℕ) → is_barred word ≡ false → IsSorted word (sort_of word)
sorted [] free = absurd (true≢false free)
sorted (x ∷ rest) free = go (nat_eq x 45) refl
  where
    go : (t : Bool) → nat_eq x 45 ≡ t → IsSorted (x ∷ rest) (sort_of (x ∷ rest))
    go true e =
        let is = eqb-true x 45 e in
        subst (λ y. IsSorted (y ∷ rest) (sort_of (y ∷ rest))) (sym is)
        (some_dash rest (subst (λ y. is_barred (y ∷ rest) ≡ false) is free))
    go false e = no_dash x rest e
