-- The parts of a number's form, read in turn.
use Rattle.std.proofs.Common.{◌≡◌, ℕ, suc, ◌+◌, ◌<◌, ◌≤◌, Bool, true, false, cond, not, ◌&&◌, List, [], ◌∷◌}
use Rattle.std.proofs.Common.{◌++◌, get_or, length, drop, refl, sym, ap, ◌∙◌, arith, length-append}
use Rattle.std.proofs.Common.{append-nil}
use Rattle.std.specs.List.{list_all, take_while, position_or_len, before_first, after_first}
use Rattle.std.proofs.lemmas.Bool.{false≢true}
use Rattle.std.proofs.lemmas.List.Folds.{list_all-append}
use Rattle.std.proofs.lemmas.List.Sums.{take_while-cons}
use Rattle.shx_term.specs.NumberForm.{is_digit, is_minus, is_sign, is_point, begins_with, without_first}
use Rattle.shx_term.specs.NumberForm.{are_digits, whole_digits, fraction_digits, is_decimal_form}
use Rattle.value_space.specs.declared.numeral.Numeral.{Numeral}
use Rattle.value_space.specs.inner.DigitRuns.{behind_digits, narrow_number, narrow_fraction}
use Rattle.value_space.specs.inner.Numerals.{IsNumeral}
use Rattle.value_space.proofs.DigitLemmas.{and-split}
use Rattle.value_space.proofs.FormLemmas.{take_while-all}
use Rattle.value_space.proofs.NumberLemmas.{are_digits-all, no_point, whole_are_digits, fraction_are_digits}
use Rattle.value_space.proofs.NumeralLemmas.{no_rest}

-- digits, and what stands behind them
pub digits_then_rest : (text : List ℕ) → take_while is_digit text ++ behind_digits text ≡ text
digits_then_rest [] = refl
digits_then_rest (b ∷ bs) =
    ap (λ ds. ds ++ behind_digits (b ∷ bs)) (take_while-cons is_digit b bs)
    ∙ elim (is_digit b) as (λ t. cond t (b ∷ take_while is_digit bs) [] ++ cond t (behind_digits bs) (b ∷ bs)
    ≡ b ∷ bs)
    [ true ↦ ap (λ xs. b ∷ xs) (digits_then_rest bs) | false ↦ refl ]

rest_begins : (text : List ℕ) → is_digit (get_or (behind_digits text) 0 0) ≡ false
rest_begins [] = refl
rest_begins (b ∷ bs) =
    elim (is_digit b) as (λ t. is_digit b ≡ t
    → is_digit (get_or (cond t (behind_digits bs) (b ∷ bs)) 0 0) ≡ false)
    [ true ↦ (λ _. rest_begins bs) | false ↦ (λ is. is) ]
    refl

all_no_rest : (text : List ℕ) → list_all is_digit text ≡ true → behind_digits text ≡ []
all_no_rest [] h = refl
all_no_rest (b ∷ bs) h = let parts = and-split (is_digit b) (list_all is_digit bs) h in
    rw (parts.0) (all_no_rest bs parts.1)

before-digits : (ds rest : List ℕ) → list_all is_digit ds ≡ true
    → before_first is_point (ds ++ rest) ≡ ds ++ before_first is_point rest
before-digits [] rest h = refl
before-digits (d ∷ ds) rest h =
    let parts = and-split (is_digit d) (list_all is_digit ds) h in
    take_while-cons (λ b. not (is_point b)) d (ds ++ rest)
    ∙ ap (λ t. cond (not t) (d ∷ before_first is_point (ds ++ rest)) []) (no_point d parts.0)
    ∙ ap (λ xs. d ∷ xs) (before-digits ds rest parts.1)

after-digits : (ds rest : List ℕ) → list_all is_digit ds ≡ true
    → after_first is_point (ds ++ rest) ≡ after_first is_point rest
after-digits [] rest h = refl
after-digits (d ∷ ds) rest h =
    let parts = and-split (is_digit d) (list_all is_digit ds) h in
    let place = position_or_len is_point (ds ++ rest) in
    let next : 1 + place + 1 ≡ suc (place + 1) = omega arith in
    rw (no_point d parts.0) (ap (λ n. drop n (d ∷ (ds ++ rest))) next ∙ after-digits ds rest parts.1)

before_rest : (text : List ℕ)
    → before_first is_point text ≡ take_while is_digit text ++ before_first is_point (behind_digits text)
before_rest text =
    ap (before_first is_point) (sym (digits_then_rest text))
    ∙ before-digits (take_while is_digit text) (behind_digits text) (take_while-all is_digit text)

after_rest : (text : List ℕ) → after_first is_point text ≡ after_first is_point (behind_digits text)
after_rest text =
    ap (after_first is_point) (sym (digits_then_rest text))
    ∙ after-digits (take_while is_digit text) (behind_digits text) (take_while-all is_digit text)

-- what a rest is where nothing but digits stand behind its point
record IsEnd (rest : List ℕ) : Type 0 where
  before : before_first is_point rest ≡ []
  after : after_first is_point rest ≡ take_while is_digit (without_first is_point rest)
  long : length rest ≡ cond (begins_with is_point rest) 1 0 + length (after_first is_point rest)
  none : begins_with is_point rest ≡ false → rest ≡ []

before-point : (b : ℕ) (bs : List ℕ) (t : Bool) → is_point b ≡ t
    → before_first is_point (b ∷ bs) ≡ cond (not t) (b ∷ before_first is_point bs) []
before-point b bs t h =
    take_while-cons (λ b. not (is_point b)) b bs ∙ ap (λ t. cond (not t) (b ∷ before_first is_point bs) []) h

after-point : (b : ℕ) (bs : List ℕ) → is_point b ≡ true → after_first is_point (b ∷ bs) ≡ bs
after-point b bs h = rw h refl

is_end-point : (b : ℕ) (bs : List ℕ) → is_point b ≡ true → behind_digits bs ≡ [] → IsEnd (b ∷ bs)
is_end-point b bs h empty =
    record {
      before = before-point b bs true h;
      after =
          after-point b bs h
          ∙ sym (digits_then_rest bs)
          ∙ ap (λ r. take_while is_digit bs ++ r) empty
          ∙ append-nil (take_while is_digit bs)
          ∙ sym (ap (λ t. take_while is_digit (cond t bs (b ∷ bs))) h);
      long = rw h (omega arith);
      none = λ other. absurd (false≢true (sym other ∙ h));
    }

not_nil : (b : ℕ) (bs : List ℕ) → b ∷ bs ≡ [] → ⊥
not_nil b bs h = cc

is_end : (rest : List ℕ) → is_digit (get_or rest 0 0) ≡ false
    → behind_digits (without_first is_point rest) ≡ [] → IsEnd rest
is_end [] other empty = record { before = refl; after = refl; long = refl; none = λ _. refl }
is_end (b ∷ bs) other empty =
    elim (is_point b) as (λ t. is_point b ≡ t → IsEnd (b ∷ bs)) [
      | true ↦ (λ h. is_end-point b bs h (sym (ap (λ t. behind_digits (cond t bs (b ∷ bs))) h) ∙ empty))
      | false ↦
          (λ h. absurd
          (not_nil b bs
          (sym (no_rest (b ∷ bs) other) ∙ sym (ap (λ t. behind_digits (cond t bs (b ∷ bs))) h)
          ∙ empty)))
    ]
    refl

ends : (rest : List ℕ) → is_digit (get_or rest 0 0) ≡ false
    → list_all is_digit (before_first is_point rest) ≡ true
    → list_all is_digit (after_first is_point rest) ≡ true → behind_digits (without_first is_point rest) ≡ []
ends [] other whole fraction = refl
ends (b ∷ bs) other whole fraction =
    elim (is_point b) as (λ t. is_point b ≡ t → behind_digits (cond t bs (b ∷ bs)) ≡ []) [
      | true ↦ (λ h. all_no_rest bs (sym (ap (list_all is_digit) (after-point b bs h)) ∙ fraction))
      | false ↦
          (λ h. absurd
          (false≢true
          (sym other
          ∙ (and-split (is_digit b) (list_all is_digit (before_first is_point bs))
          (sym (ap (list_all is_digit) (before-point b bs false h)) ∙ whole)).0)))
    ]
    refl

pub nonempty_digits : (xs : List ℕ) → list_all is_digit xs ≡ true → 0 < length xs → are_digits xs ≡ true
nonempty_digits [] h long = absurd (omega arith)
nonempty_digits (x ∷ xs) h long = h

digits_nonempty : (xs : List ℕ) → are_digits xs ≡ true → 0 < length xs
digits_nonempty [] h = absurd (false≢true h)
digits_nonempty (x ∷ xs) h = omega arith

-- how long a text is, by its digits and its point
length-digits : (text : List ℕ) → IsEnd (behind_digits text)
    → length text
    ≡ cond (begins_with is_point (behind_digits text)) 1 0 + length
    (before_first is_point text ++ after_first is_point text)
length-digits text end =
    let digits = take_while is_digit text in
    let whole : before_first is_point text ≡ digits =
    before_rest text ∙ ap (λ xs. digits ++ xs) end.before ∙ append-nil digits in
    let parts : length (before_first is_point text ++ after_first is_point text)
    ≡ length digits + length (after_first is_point (behind_digits text)) =
    length-append (before_first is_point text) (after_first is_point text)
    ∙ (omega (arith, ap length whole, ap length (after_rest text))) in
    let all : length text ≡ length digits + length (behind_digits text) =
    sym (ap length (digits_then_rest text)) ∙ length-append digits (behind_digits text) in
    omega (arith, parts, all, end.long)

is_integer : (text : List ℕ) → IsEnd (behind_digits text) → 0 < length text
    → are_digits text ≡ not (begins_with is_point (behind_digits text))
is_integer text end long =
    let rest = behind_digits text in
    let digits = take_while is_digit text in
    elim (begins_with is_point rest) as (λ t. begins_with is_point rest ≡ t → are_digits text ≡ not t) [
      | true ↦ (λ h.
          elim (are_digits text) as (λ t. are_digits text ≡ t → t ≡ false) [
            | true ↦
                (λ all. absurd
                (false≢true
                (sym (ap (begins_with is_point) (all_no_rest text (are_digits-all text all))) ∙ h)))
            | false ↦ (λ _. refl)
          ]
          refl)
      | false ↦ (λ h.
          let same : text ≡ digits =
          sym (digits_then_rest text) ∙ ap (λ xs. digits ++ xs) (end.none h) ∙ append-nil digits in
          nonempty_digits text (ap (list_all is_digit) same ∙ take_while-all is_digit text) long)
    ]
    refl

pub is_numeral :
    (text : List ℕ) (numeral : Numeral)
    → behind_digits (without_first is_point (behind_digits (without_first is_sign text))) ≡ []
    → cond (begins_with is_point (behind_digits (without_first is_sign text))) 1 0
    < length (without_first is_sign text)
    → numeral.negative ≡ begins_with is_minus text
    → numeral.has_point ≡ begins_with is_point (behind_digits (without_first is_sign text))
    → numeral.whole ≡ narrow_number (take_while is_digit (without_first is_sign text))
    → numeral.fraction
    ≡ narrow_fraction 38
    (take_while is_digit (without_first is_point (behind_digits (without_first is_sign text))))
    → IsNumeral text numeral
is_numeral text numeral empty long negative has_point whole fraction =
    let unsigned = without_first is_sign text in
    let rest = behind_digits unsigned in
    let digits = take_while is_digit unsigned in
    let places = take_while is_digit (without_first is_point rest) in
    let end = is_end rest (rest_begins unsigned) empty in
    let before : whole_digits text ≡ digits =
    before_rest unsigned ∙ ap (λ xs. digits ++ xs) end.before ∙ append-nil digits in
    let after : fraction_digits text ≡ places = after_rest unsigned ∙ end.after in
    let all : list_all is_digit (whole_digits text ++ fraction_digits text) ≡ true =
    list_all-append is_digit (whole_digits text) (fraction_digits text)
    ∙ ap (λ ds. list_all is_digit ds && list_all is_digit (fraction_digits text)) before
    ∙ ap (λ ds. list_all is_digit digits && list_all is_digit ds) after
    ∙ ap (λ t. t && list_all is_digit places) (take_while-all is_digit unsigned)
    ∙ take_while-all is_digit (without_first is_point rest) in
    record {
      form =
          nonempty_digits (whole_digits text ++ fraction_digits text) all
          (omega (arith, length-digits unsigned end, long));
      negative = negative;
      integer = is_integer unsigned end (omega (arith, long)) ∙ sym (ap not has_point);
      whole = whole ∙ sym (ap narrow_number before);
      fraction = fraction ∙ sym (ap (narrow_fraction 38) after);
    }

pub not_decimal :
    (text : List ℕ)
    → (behind_digits (without_first is_point (behind_digits (without_first is_sign text))) ≡ []
    → length (without_first is_sign text)
    ≤ cond (begins_with is_point (behind_digits (without_first is_sign text))) 1 0)
    → is_decimal_form text ≡ false
not_decimal text short =
    let unsigned = without_first is_sign text in
    let rest = behind_digits unsigned in
    let digits = take_while is_digit unsigned in
    elim (is_decimal_form text) as (λ t. is_decimal_form text ≡ t → t ≡ false) [
      | true ↦ (λ form.
          let whole =
          sym (list_all-append is_digit digits (before_first is_point rest))
          ∙ sym (ap (list_all is_digit) (before_rest unsigned)) ∙ whole_are_digits text form in
          let fraction = sym (ap (list_all is_digit) (after_rest unsigned)) ∙ fraction_are_digits text form in
          let empty =
          ends rest (rest_begins unsigned)
          (and-split (list_all is_digit digits)
          (list_all is_digit (before_first is_point rest)) whole).1
          fraction in
          let long = digits_nonempty (whole_digits text ++ fraction_digits text) form in
          let all = length-digits unsigned (is_end rest (rest_begins unsigned) empty) in
          absurd (omega (arith, long, all, short empty)))
      | false ↦ (λ _. refl)
    ]
    refl
