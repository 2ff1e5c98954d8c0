-- Literals that are well formed and need more digits than values have here: numbers of more than 38 digits
-- before or behind the point, moments of years with more than four digits or with finer fractions than
-- nanoseconds.
use Rattle.std.specs.Prelude.{ℕ, Bool, false, ◌&&◌, List}
use Rattle.shx_term.specs.declared.term.Literal.{Literal}
use Rattle.shx_term.specs.Datatypes.{Space, space_of}
use Rattle.shx_term.specs.Datatypes.Space.{Integers, Decimals, Booleans, Strings, Moments, Days, Opaques}
use Rattle.shx_term.specs.NumberForm.{is_integer_form, is_decimal_form, is_wide_number}
use Rattle.shx_term.specs.MomentForm.{is_day_form, is_moment_form, is_wide_day, is_wide_moment}

abbrev pub is_wide_in : Space → List ℕ → Bool
is_wide_in (Integers least greatest) text = is_integer_form text && is_wide_number text
is_wide_in Decimals text = is_decimal_form text && is_wide_number text
is_wide_in Booleans text = false
is_wide_in Strings text = false
is_wide_in Moments text = is_moment_form text && is_wide_moment text
is_wide_in Days text = is_day_form text && is_wide_day text
is_wide_in Opaques text = false

abbrev pub is_wide : Literal → Bool
is_wide literal = is_wide_in (space_of literal) literal.lexical
