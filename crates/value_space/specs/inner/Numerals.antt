-- What is read of a number's form.
use Rattle.std.specs.Prelude.{◌≡◌, ℕ, true, not, List}
use Rattle.shx_term.specs.NumberForm.{is_minus, begins_with, whole_digits, fraction_digits, is_decimal_form}
use Rattle.shx_term.specs.NumberForm.{is_integer_form}
use Rattle.value_space.specs.inner.DigitRuns.{narrow_number, narrow_fraction}
use Rattle.value_space.specs.declared.numeral.Numeral.{Numeral}

-- what is read of a decimal form
pub record IsNumeral (text : List ℕ) (numeral : Numeral) : Type 0 where
  pub form : is_decimal_form text ≡ true
  pub negative : numeral.negative ≡ begins_with is_minus text
  pub integer : is_integer_form text ≡ not numeral.has_point
  pub whole : numeral.whole ≡ narrow_number (whole_digits text)
  pub fraction : numeral.fraction ≡ narrow_fraction 38 (fraction_digits text)
