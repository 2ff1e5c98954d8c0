-- The value of a literal is canonical.
use Rattle.std.proofs.Common.{◌≡◌, ℕ, zero, suc, ◌+◌, ◌*◌, ◌^◌, ◌<◌, ◌≤◌, Bool, true, false, cond, not, ◌&&◌}
use Rattle.std.proofs.Common.{eqb, List, [], ◌∷◌, ◌++◌, length, take, replicate, refl, ◌∙◌, arith}
use Rattle.std.specs.List.{list_all}
use Rattle.std.proofs.lemmas.List.{length-take}
use Rattle.std.proofs.lemmas.List.Folds.{list_all-append}
use Rattle.std.proofs.lemmas.Grind.{common_steps}
use Rattle.shx_term.specs.declared.term.Literal.{Literal}
use Rattle.shx_term.specs.Datatypes.{Space, space_of}
use Rattle.shx_term.specs.Datatypes.Space.{Integers, Decimals, Booleans, Strings, Moments, Days, Opaques}
use Rattle.shx_term.specs.NumberForm.{is_digit, is_minus, begins_with, fraction_digits, is_integer_form}
use Rattle.shx_term.specs.NumberForm.{is_decimal_form}
use Rattle.value_space.specs.declared.value.Value.{Value}
use Rattle.value_space.specs.declared.value.Value.TheVariants.{Stamp, Day, IllTyped}
use Rattle.value_space.specs.declared.value.Value.TheVariants.{Bool as Truth}
use Rattle.value_space.specs.Numbers.{number_in_places, whole_of, fraction_of, integer_of}
use Rattle.value_space.specs.Values.{value_of, value_in, number_value, is_from, is_up_to}
use Rattle.value_space.specs.Moments.{is_moment, moment_nanos, moment_zoned, is_day, day_nanos, day_zoned}
use Rattle.value_space.specs.inner.Canonical.{IsCanonical}
use Rattle.value_space.proofs.DigitLemmas.{and-split, ten_to, number_of-below}
use Rattle.value_space.proofs.NumberLemmas.{fraction_are_digits, integer_is_decimal}

list_all-take : (n : ℕ) (xs : List ℕ) → list_all is_digit xs ≡ true → list_all is_digit (take n xs) ≡ true
list_all-take zero xs h = refl
list_all-take (suc n) [] h = refl
list_all-take (suc n) (x ∷ xs) h = let parts = and-split (is_digit x) (list_all is_digit xs) h in
    rw (parts.0) (list_all-take n xs parts.1)

zeros_are_digits : (n : ℕ) → list_all is_digit (replicate n 48) ≡ true
zeros_are_digits zero = refl
zeros_are_digits (suc n) = zeros_are_digits n

pub number_in_places-below : (places : ℕ) (digits : List ℕ) → list_all is_digit digits ≡ true
    → number_in_places places digits < 10 ^ places
number_in_places-below places digits h =
    let all = digits ++ replicate places 48 in
    let whole : list_all is_digit all ≡ true =
    list_all-append is_digit digits (replicate places 48) ∙ rw (h, zeros_are_digits places) refl in
    let below = number_of-below (take places all) (list_all-take places all whole) in
    let short : length (take places all) ≤ places = omega (arith, length-take places all) in
    omega (arith, below, ten_to (length (take places all)) places short)

not_negative_zero : (minus : Bool) (whole fraction : ℕ)
    → (minus && not ((eqb whole 0) && (eqb fraction 0))) ≡ true → 0 < whole * 10 ^ 38 + fraction
not_negative_zero minus whole fraction h = grind (arith, common_steps)

number_canonical : (text : List ℕ) → is_decimal_form text ≡ true → IsCanonical (number_value text)
number_canonical text form = record {
  below_one = number_in_places-below 38 (fraction_digits text) (fraction_are_digits text form);
  not_zero = not_negative_zero (begins_with is_minus text) (whole_of text) (fraction_of text);
}

if_canonical : (test : Bool) (value : Value) → (test ≡ true → IsCanonical value)
    → IsCanonical (cond test value IllTyped)
if_canonical true value h = h refl
if_canonical false value h = tt

truth_canonical : (a b : Bool) → IsCanonical (cond a (Truth true) (cond b (Truth false) IllTyped))
truth_canonical true b = tt
truth_canonical false true = tt
truth_canonical false false = tt

value_in-canonical : (space : Space) (text : List ℕ) → IsCanonical (value_in space text)
value_in-canonical (Integers least greatest) text =
    if_canonical
    (is_integer_form text && (is_from least (integer_of text) && is_up_to greatest (integer_of text)))
    (number_value text) (λ h.
    number_canonical text (integer_is_decimal text (and-split (is_integer_form text) _ h).0))
value_in-canonical Decimals text =
    if_canonical (is_decimal_form text) (number_value text) (number_canonical text)
value_in-canonical Booleans text = truth_canonical _ _
value_in-canonical Strings text = tt
value_in-canonical Moments text =
    if_canonical (is_moment text) (Stamp (moment_nanos text) (moment_zoned text)) (λ h. tt)
value_in-canonical Days text = if_canonical (is_day text) (Day (day_nanos text) (day_zoned text)) (λ h. tt)
value_in-canonical Opaques text = tt

pub value_of-canonical : (literal : Literal) → IsCanonical (value_of literal)
value_of-canonical literal = value_in-canonical (space_of literal) literal.lexical
