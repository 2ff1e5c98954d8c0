-- The digits of a number's form, and how large the number is.
use Rattle.std.proofs.Common.{◌≡◌, ℕ, ◌+◌, true, false, cond, ◌&&◌, eqb, List, [], ◌∷◌, ◌++◌, length, refl}
use Rattle.std.proofs.Common.{sym, ap, ◌∙◌, arith, append-nil}
use Rattle.std.specs.List.{list_all, position_or_len, before_first, after_first}
use Rattle.std.proofs.lemmas.Bool.{eqb-true, false≢true}
use Rattle.std.proofs.lemmas.List.Folds.{list_all-append}
use Rattle.std.proofs.lemmas.List.{take_all, drop_all}
use Rattle.std.proofs.lemmas.Grind.{common_steps}
use Rattle.shx_term.specs.NumberForm.{is_digit, is_point, is_sign, without_first, number_of, are_digits}
use Rattle.shx_term.specs.NumberForm.{whole_digits, fraction_digits, is_integer_form, is_decimal_form}
use Rattle.shx_term.specs.NumberForm.{without_leading_zeros}
use Rattle.value_space.proofs.DigitLemmas.{and-split}

pub are_digits-all : (digits : List ℕ) → are_digits digits ≡ true → list_all is_digit digits ≡ true
are_digits-all [] h = refl
are_digits-all (d ∷ ds) h = h

both_digits : (whole fraction : List ℕ) → are_digits (whole ++ fraction) ≡ true
    → (list_all is_digit whole && list_all is_digit fraction) ≡ true
both_digits whole fraction h =
    sym (list_all-append is_digit whole fraction) ∙ are_digits-all (whole ++ fraction) h

pub whole_are_digits : (text : List ℕ) → is_decimal_form text ≡ true
    → list_all is_digit (whole_digits text) ≡ true
whole_are_digits text h =
    (and-split (list_all is_digit (whole_digits text)) (list_all is_digit (fraction_digits text))
    (both_digits (whole_digits text) (fraction_digits text) h)).0

pub fraction_are_digits : (text : List ℕ) → is_decimal_form text ≡ true
    → list_all is_digit (fraction_digits text) ≡ true
fraction_are_digits text h =
    (and-split (list_all is_digit (whole_digits text)) (list_all is_digit (fraction_digits text))
    (both_digits (whole_digits text) (fraction_digits text) h)).1

-- zeros in front count nothing
pub number_of-without_leading_zeros : (digits : List ℕ)
    → number_of (without_leading_zeros digits) ≡ number_of digits
number_of-without_leading_zeros [] = refl
number_of-without_leading_zeros (d ∷ ds) =
    elim (eqb d 48) as (λ b. (b ≡ true → d ≡ 48)
    → number_of (cond b (without_leading_zeros ds) (d ∷ ds)) ≡ number_of (d ∷ ds)) [
      | true ↦ (λ is. number_of-without_leading_zeros ds ∙ sym (ap (λ x. number_of (x ∷ ds)) (is refl)))
      | false ↦ (λ is. refl)
    ]
    (eqb-true d 48)

pub all-without_leading_zeros : (digits : List ℕ) → list_all is_digit digits ≡ true
    → list_all is_digit (without_leading_zeros digits) ≡ true
all-without_leading_zeros [] h = refl
all-without_leading_zeros (d ∷ ds) h =
    elim (eqb d 48) as (λ b. list_all is_digit (cond b (without_leading_zeros ds) (d ∷ ds)) ≡ true)
    [ true ↦ all-without_leading_zeros ds (and-split (is_digit d) (list_all is_digit ds) h).1 | false ↦ h ]

pub no_point : (d : ℕ) → is_digit d ≡ true → is_point d ≡ false
no_point d h = grind (arith, common_steps)

digits_have_no_point : (digits : List ℕ) → list_all is_digit digits ≡ true
    → position_or_len is_point digits ≡ length digits
digits_have_no_point [] h = refl
digits_have_no_point (d ∷ ds) h =
    let parts = and-split (is_digit d) (list_all is_digit ds) h in
    rw (no_point d parts.0) (ap (λ n. 1 + n) (digits_have_no_point ds parts.1) ∙ omega arith)

all_before : (digits : List ℕ) → position_or_len is_point digits ≡ length digits
    → before_first is_point digits ++ after_first is_point digits ≡ digits
all_before digits h =
    rw h
    (rw (take_all (length digits) digits (omega arith), drop_all (length digits + 1) digits (omega arith))
    (append-nil digits))

pub integer_is_decimal : (text : List ℕ) → is_integer_form text ≡ true → is_decimal_form text ≡ true
integer_is_decimal text h =
    let digits = without_first is_sign text in
    ap are_digits (all_before digits (digits_have_no_point digits (are_digits-all digits h))) ∙ h

pub not_integer : (text : List ℕ) → is_decimal_form text ≡ false → is_integer_form text ≡ false
not_integer text h =
    elim (is_integer_form text) as (λ b. (b ≡ true → is_decimal_form text ≡ true) → b ≡ false)
    [ true ↦ (λ decimal. absurd (false≢true (sym h ∙ decimal refl))) | false ↦ (λ _. refl) ]
    (integer_is_decimal text)
