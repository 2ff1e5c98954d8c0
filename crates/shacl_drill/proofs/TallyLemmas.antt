-- What lines say, line by line.
use Rattle.std.proofs.Common.{◌≡◌, ℕ, ◌+◌, ◌<◌, ◌^◌, Bool, true, false, List, [], ◌∷◌, ◌++◌, map, refl}
use Rattle.std.proofs.Common.{sym, ap, ◌∙◌}
use Rattle.std.proofs.Common.{Bor, cond, inl, inr, zero-add, arith}
use Rattle.std.specs.Prelude.{◌⊎◌, decimal, filter, count_by, Option, Some, None, IfSome, option_map}
use Rattle.std.specs.List.{last_or, slice_split, sum_by}
use Rattle.std.specs.Prelude.{Result, Ok, Err, MatchResult, if◌then◌else◌}
use Rattle.std.specs.Result.{result_ok}
use Rattle.std.proofs.lemmas.Option.{same_Some}
use Rattle.std.specs.Option.{unwrap_or}
use Rattle.std.specs.Str.Parse.{digits_value}
use Rattle.std.proofs.lemmas.Fmt.{decimal_is_IsNumeral}
use Rattle.std.proofs.lemmas.List.{map-append}
use Rattle.std.proofs.lemmas.List.Elements.{filter-append}
use Rattle.std.proofs.lemmas.List.Sums.{sum_by-append, sum_by_push}
use Rattle.text_input.specs.Lines.{is_line_feed, lines_of, without_empty_end}
use Rattle.shacl_drill.specs.Summary.{Told, evaluated_in, is_change, is_count, is_edit_answer, told_by}
use Rattle.shacl_drill.specs.inner.Tallied.{with_line}

-- ---- one line more

count-more : (p : List ℕ → Bool) (lines : List (List ℕ)) (line : List ℕ)
    → count_by p (lines ++ line ∷ []) ≡ count_by p lines + (if p line then 1 else 0)
count-more p lines line = sum_by_push (λ x. cond (p x) 1 0) lines line

sum_of_one : (b : Bool) (f : List ℕ → ℕ) (line : List ℕ)
    → sum_by f (cond b (line ∷ []) []) ≡ (if b then f line else 0)
sum_of_one true f line = zero-add (f line)
sum_of_one false f line = refl

sum-more : (p : List ℕ → Bool) (f : List ℕ → ℕ) (lines : List (List ℕ)) (line : List ℕ)
    → sum_by f (filter p (lines ++ line ∷ [])) ≡ sum_by f (filter p lines) + (if p line then f line else 0)
sum-more p f lines line =
    ap (sum_by f) (filter-append p lines (line ∷ []))
    ∙ sum_by-append f (filter p lines) (cond (p line) (line ∷ []) [])
    ∙ ap (λ last. sum_by f (filter p lines) + last) (sum_of_one (p line) f line)

last_or-append : (o : Option (List ℕ)) (xs ys : List (List ℕ))
    → last_or o (xs ++ ys) ≡ last_or (last_or o xs) ys
last_or-append o [] ys = refl
last_or-append o (x ∷ xs) ys = last_or-append (Some x) xs ys

last_of_one : (b : Bool) (o : Option (List ℕ)) (line : List ℕ)
    → last_or o (cond b (line ∷ []) []) ≡ (if b then Some line else o)
last_of_one true o line = refl
last_of_one false o line = refl

last-more : (p : List ℕ → Bool) (lines : List (List ℕ)) (line : List ℕ)
    → last_or None (filter p (lines ++ line ∷ []))
    ≡ (if p line then Some line else last_or None (filter p lines))
last-more p lines line =
    ap (last_or None) (filter-append p lines (line ∷ []))
    ∙ last_or-append None (filter p lines) (cond (p line) (line ∷ []) [])
    ∙ last_of_one (p line) (last_or None (filter p lines)) line

abbrev made : ℕ → ℕ → ℕ → Option (List ℕ) → Told
made a b c o = record { edits = a; changed = b; evaluated = c; last_count = o }

same_told : (a b c : ℕ) (o : Option (List ℕ)) (told : Told) → a ≡ told.edits → b ≡ told.changed
    → c ≡ told.evaluated → o ≡ told.last_count → made a b c o ≡ told
same_told a b c o told first second third last =
    ap (λ x. made x b c o) first ∙ ap (λ x. made told.edits x c o) second
    ∙ ap (λ x. made told.edits told.changed x o) third
    ∙ ap (made told.edits told.changed told.evaluated) last

pub told-more : (lines : List (List ℕ)) (line : List ℕ)
    → told_by (lines ++ line ∷ []) ≡ with_line (told_by lines) line
told-more lines line =
    same_told _ _ _ _ (with_line (told_by lines) line) (count-more is_edit_answer lines line)
    (count-more is_change lines line) (sum-more is_edit_answer evaluated_in lines line)
    (last-more is_count lines line)

-- the same of a line behind a reference, after those behind others
pub told-next : (seen : List (Bor (List ℕ))) (line : Bor (List ℕ)) (now next : Told)
    → now ≡ told_by (map (λ x. x.now) seen) → next ≡ with_line now line.now
    → next ≡ told_by (map (λ x. x.now) (seen ++ line ∷ []))
told-next seen line now next is more =
    more ∙ ap (λ told. with_line told line.now) is ∙ sym (told-more (map (λ x. x.now) seen) line.now)
    ∙ ap told_by (sym (map-append (λ (x : Bor (List ℕ)). x.now) seen (line ∷ [])))

-- ---- all lines

-- an empty line says nothing
empty_says_nothing : (told : Told) → with_line told [] ≡ told
empty_says_nothing told = same_told _ _ _ _ told (omega arith) (omega arith) (omega arith) refl

-- what is left out at the end is an empty part
empty_end : (parts : List (List ℕ))
    → (parts ≡ without_empty_end parts) ⊎ (parts ≡ without_empty_end parts ++ [] ∷ [])
empty_end [] = inl refl
empty_end ([] ∷ []) = inr refl
empty_end ((b ∷ bs) ∷ []) = inl refl
empty_end (part ∷ (next ∷ parts)) = elim (empty_end (next ∷ parts)) [
  | inl same ↦ inl (ap (λ rest. part ∷ rest) same)
  | inr same ↦ inr (ap (λ rest. part ∷ rest) same)
]

-- so lines say what the parts at line feeds do
pub told_of_lines : (text : List ℕ) (parts : List (List ℕ)) → parts ≡ slice_split is_line_feed text
    → told_by parts ≡ told_by (lines_of text)
told_of_lines text parts is =
    let lines = lines_of text in
    ap told_by is ∙ elim (empty_end (slice_split is_line_feed text)) [
      | inl same ↦ ap told_by same
      | inr same ↦ ap told_by same ∙ told-more lines [] ∙ empty_says_nothing (told_by lines)
    ]

-- ---- parts of a line

now_or : (o : Option (Bor (List ℕ))) (d : Bor (List ℕ)) → d.now ≡ []
    → (unwrap_or o d).now ≡ unwrap_or (option_map (λ x. x.now) o) []
now_or None d none = none
now_or (Some x) d none = refl

pub part_found : (o : Option (Bor (List ℕ))) (d r : Bor (List ℕ)) (found : Option (List ℕ))
    → r ≡ unwrap_or o d → d.now ≡ [] → option_map (λ x. x.now) o ≡ found → r.now ≡ unwrap_or found []
part_found o d r found is none same =
    ap (λ (x : Bor (List ℕ)). x.now) is ∙ now_or o d none ∙ ap (λ x. unwrap_or x []) same

-- ---- numbers

-- the text that bytes were found to be has these bytes
pub told_text : {E : Type 0} (read : Result (Bor (List ℕ)) E) (text : Bor (List ℕ)) (bytes : List ℕ)
    (U : Type 0) (No : E → Type 0) → Some text ≡ result_ok read
    → MatchResult read (λ s. (s.now ≡ bytes) × U) No → text.now ≡ bytes
told_text (Ok s) text bytes U No is told = ap (λ (x : Bor (List ℕ)). x.now) (same_Some text s is) ∙ told.0
told_text (Err e) text bytes U No is told = absurd (cc)

-- a number whose decimal digits these are is what they write
pub value_of_digits : (found : Option ℕ) (text digits : List ℕ) → text ≡ digits
    → IfSome found (λ n. text ≡ decimal n) → IfSome found (λ n. n < 2 ^ 64)
    → IfSome found (λ n. n ≡ digits_value 10 digits)
value_of_digits None text digits same is fits = tt
value_of_digits (Some n) text digits same is fits =
    sym ((decimal_is_IsNumeral n fits).1) ∙ ap (digits_value 10) (sym is ∙ same)
