-- Words with a value behind an equals sign, and words with one dash.
use Rattle.std.proofs.Common.{◌≡◌, ◌∙◌, ℕ, suc, ◌+◌, ◌<◌, Bool, true, false, ◌&&◌, ◌==◌, nat_eq, List, []}
use Rattle.std.proofs.Common.{◌∷◌, ◌++◌, length, take, drop, Some, None, bytes_eq, chars, IsUtf8}
use Rattle.std.proofs.Common.{encode_utf8_all, slice_get, option_and_then, if◌then◌else◌, refl, sym, ap, ap₂}
use Rattle.std.proofs.Common.{subst, inl, inr, arith, true≢false, eqb-true, eq-eqb, ne_eqb}
use Rattle.std.proofs.lemmas.Bool.{and_parts, and_right, cases_eq, false_from_ne_true, or_parts}
use Rattle.std.proofs.lemmas.Slice.Eq.{bytes_eq-Decides}
use Rattle.std.proofs.lemmas.Str.{IsUtf8-drop, IsCharBoundary-after_ascii, encodes-chars}
use Rattle.std.specs.List.{position_or_len, starts_with, before_first, after_first}
use Rattle.clap.specs.Lexer.{has_byte, short_of, short_of_rest}
use Rattle.iri_resolve.proofs.CutLemmas.{position_or_len-yes, position_or_len-no}

abbrev pub is_equals : ℕ → Bool
is_equals x = x == 61

eqb-sym : (x y : ℕ) → nat_eq x y ≡ nat_eq y x
eqb-sym x y = elim (cases_eq x y) [
  | inl e ↦ eq-eqb x y e ∙ sym (eq-eqb y x (sym e))
  | inr e ↦ ne_eqb x y e ∙ sym (ne_eqb y x (λ h. e (sym h)))
]

pub bytes_eq-sym : (a b : List ℕ) → bytes_eq a b ≡ bytes_eq b a
bytes_eq-sym [] [] = refl
bytes_eq-sym [] (y ∷ ys) = refl
bytes_eq-sym (x ∷ xs) [] = refl
bytes_eq-sym (x ∷ xs) (y ∷ ys) = ap₂ (λ s t. s && t) (eqb-sym x y) (bytes_eq-sym xs ys)

pub other_byte : (x y : ℕ) → nat_eq x y ≡ false → nat_eq y x ≡ false
other_byte x y e = eqb-sym y x ∙ e

-- what has an equals sign is no name without one
pub not_attached : (rest key : List ℕ) → has_byte 61 rest ≡ true → has_byte 61 key ≡ false
    → bytes_eq rest key ≡ false
not_attached rest key has none = false_from_ne_true (bytes_eq rest key)
    (λ e. true≢false (sym has ∙ ap (has_byte 61) ((bytes_eq-Decides rest key).0 e) ∙ none))

-- ---- what stands before the first equals sign, and behind it

before-yes : (x : ℕ) (xs : List ℕ) → is_equals x ≡ true → before_first is_equals (x ∷ xs) ≡ []
before-yes x xs e = ap (λ n. take n (x ∷ xs)) (position_or_len-yes is_equals x xs e)

before-no : (x : ℕ) (xs : List ℕ) → is_equals x ≡ false
    → before_first is_equals (x ∷ xs) ≡ x ∷ before_first is_equals xs
before-no x xs e = ap (λ n. take n (x ∷ xs)) (position_or_len-no is_equals x xs e)

after-yes : (x : ℕ) (xs : List ℕ) → is_equals x ≡ true → after_first is_equals (x ∷ xs) ≡ xs
after-yes x xs e = ap (λ n. drop (n + 1) (x ∷ xs)) (position_or_len-yes is_equals x xs e)

after-no : (x : ℕ) (xs : List ℕ) → is_equals x ≡ false
    → after_first is_equals (x ∷ xs) ≡ after_first is_equals xs
after-no x xs e =
    let p = position_or_len is_equals xs in
    let more : suc p + 1 ≡ suc (p + 1) = omega arith in
    ap (λ n. drop (n + 1) (x ∷ xs)) (position_or_len-no is_equals x xs e) ∙ ap (λ n. drop n (x ∷ xs)) more

swapped : (a h b : Bool) → (a && (h && b)) ≡ (h && (a && b))
swapped true h b = refl
swapped false true b = refl
swapped false false b = refl

no_name_at : (x : ℕ) (xs : List ℕ) (t : Bool) → is_equals x ≡ t
    → starts_with nat_eq (x ∷ xs) (61 ∷ [])
    ≡ (has_byte 61 (x ∷ xs) && bytes_eq [] (before_first is_equals (x ∷ xs)))
no_name_at x xs true e = rw (before-yes x xs e, eqb-sym 61 x, e) refl
no_name_at x xs false e = rw (before-no x xs e, eqb-sym 61 x, e) (sym (and_right (has_byte 61 xs) false refl))

name_at : (k x : ℕ) (ks xs : List ℕ) (t : Bool) → is_equals k ≡ false → is_equals x ≡ t
    → starts_with nat_eq xs (ks ++ 61 ∷ []) ≡ (has_byte 61 xs && bytes_eq ks (before_first is_equals xs))
    → starts_with nat_eq (x ∷ xs) (k ∷ (ks ++ 61 ∷ []))
    ≡ (has_byte 61 (x ∷ xs) && bytes_eq (k ∷ ks) (before_first is_equals (x ∷ xs)))
name_at k x ks xs true none e rest =
    let apart : nat_eq k x ≡ false = subst (λ y. nat_eq k y ≡ false) (sym (eqb-true x 61 e)) none in
    rw (before-yes x xs e, e, apart) refl
name_at k x ks xs false none e rest =
    rw (before-no x xs e, e, rest)
    (swapped (nat_eq k x) (has_byte 61 xs) (bytes_eq ks (before_first is_equals xs)))

-- a word begins with a name and an equals sign where the name is what stands before the first one
pub named_before : (key rest : List ℕ) → has_byte 61 key ≡ false
    → starts_with nat_eq rest (key ++ 61 ∷ [])
    ≡ (has_byte 61 rest && bytes_eq key (before_first is_equals rest))
named_before [] [] none = refl
named_before [] (x ∷ xs) none = no_name_at x xs (is_equals x) refl
named_before (k ∷ ks) [] none = refl
named_before (k ∷ ks) (x ∷ xs) none =
    let parts = or_parts (is_equals k) (has_byte 61 ks) none in
    name_at k x ks xs (is_equals x) parts.0 refl (named_before ks xs parts.1)

-- and the value is what stands behind it
pub value_behind : (key rest : List ℕ) → has_byte 61 key ≡ false
    → starts_with nat_eq rest (key ++ 61 ∷ []) ≡ true
    → drop (suc (length key)) rest ≡ after_first is_equals rest
value_behind [] [] none e = absurd (true≢false (sym e))
value_behind [] (x ∷ xs) none e = sym (after-yes x xs (eqb-sym x 61 ∙ (and_parts (nat_eq 61 x) true e).0))
value_behind (k ∷ ks) [] none e = absurd (true≢false (sym e))
value_behind (k ∷ ks) (x ∷ xs) none e =
    let apart = or_parts (is_equals k) (has_byte 61 ks) none in
    let parts = and_parts (nat_eq k x) (starts_with nat_eq xs (ks ++ 61 ∷ [])) e in
    let other = subst (λ y. is_equals y ≡ false) (eqb-true k x parts.0) apart.0 in
    value_behind ks xs apart.1 parts.1 ∙ sym (after-no x xs other)

-- ---- one dash

rest_is : (flags rest : List ℕ) → short_of_rest rest ≡ Some flags → (rest ≡ flags) × (0 < length flags)
rest_is flags [] e = absurd cc
rest_is flags (y ∷ ys) e = go (y == 45) e
  where
    go : (t : Bool) → (if t then None else Some (y ∷ ys)) ≡ Some flags → (y ∷ ys ≡ flags) × (0 < length flags)
    go true h = absurd cc
    go false h =
        let same : y ∷ ys ≡ flags = cc in
        (same, subst (λ (xs : List ℕ). 0 < length xs) same (omega arith))

pub dash_and_flags : (word flags : List ℕ) → short_of word ≡ Some flags
    → (word ≡ 45 ∷ flags) × (0 < length flags)
dash_and_flags [] flags e = absurd cc
dash_and_flags (x ∷ xs) flags e = go (x == 45) refl e
  where
    go : (t : Bool) → (x == 45) ≡ t → option_and_then short_of_rest (if t then Some xs else None) ≡ Some flags
        → (x ∷ xs ≡ 45 ∷ flags) × (0 < length flags)
    go true is h =
        let rest = rest_is flags xs h in
        (ap₂ (λ y ys. y ∷ ys) (eqb-true x 45 is) rest.0, rest.1)
    go false is h = absurd cc

-- a text that is not empty has a first character
pub first_char : (flags : List ℕ) → IsUtf8 (45 ∷ flags) → 0 < length flags
    → (x : ℕ) × (slice_get (chars flags) 0 ≡ Some x)
first_char flags utf8 some =
    go (chars flags) (encodes-chars flags
    (IsUtf8-drop (45 ∷ flags) 1 utf8
    (IsCharBoundary-after_ascii (45 ∷ flags) 0 utf8 (omega arith) (omega arith))))
  where
    go : (cs : List ℕ) → encode_utf8_all cs ≡ flags → (x : ℕ) × (slice_get cs 0 ≡ Some x)
    go [] e =
        let none : 0 ≡ length flags = ap length e in
        absurd (omega arith)
    go (c ∷ cs) e = (c, refl)
