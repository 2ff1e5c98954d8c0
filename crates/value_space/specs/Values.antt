-- The value of a literal, by the space of its datatype (XML Schema 1.1 part 2; SPARQL 1.1, section 17.1). A
-- literal that does not have the form of its datatype, or lies outside its range, is ill-typed.
use Rattle.std.specs.Prelude.{ℕ, Bool, true, false, ◌&&◌, ◌||◌, ℤ, int_le, List, Option, Some, None}
use Rattle.std.specs.Prelude.{if◌then◌else◌, codes, nat_eq}
use Rattle.std.specs.Cmp.Lexicographic.{pointwise}
use Rattle.shx_term.specs.declared.term.Literal.{Literal}
use Rattle.shx_term.specs.Datatypes.{Space, space_of, xsd}
use Rattle.shx_term.specs.Datatypes.Space.{Integers, Decimals, Booleans, Strings, Moments, Days, Opaques}
use Rattle.shx_term.specs.NumberForm.{is_integer_form, is_decimal_form}
use Rattle.value_space.specs.declared.value.Value.{Value}
use Rattle.value_space.specs.declared.value.Value.TheVariants.{Num, Text, Stamp, Day, IllTyped, Opaque}
use Rattle.value_space.specs.declared.value.Value.TheVariants.{Bool as Truth}
use Rattle.value_space.specs.Numbers.{is_negative, whole_of, fraction_of, integer_of}
use Rattle.value_space.specs.Moments.{is_day, day_nanos, day_zoned, is_moment, moment_nanos, moment_zoned}

-- not below the least number of a type, and not above its greatest
abbrev pub is_from : Option ℤ → ℤ → Bool
is_from None n = true
is_from (Some least) n = int_le least n

abbrev pub is_up_to : Option ℤ → ℤ → Bool
is_up_to None n = true
is_up_to (Some greatest) n = int_le n greatest

abbrev pub number_value : List ℕ → Value
number_value text = Num (is_negative text) (whole_of text) (fraction_of text)

abbrev pub truth_value : List ℕ → Value
truth_value text =
    if pointwise nat_eq text (codes "true") || pointwise nat_eq text (codes "1") then Truth true
    else (if pointwise nat_eq text (codes "false") || pointwise nat_eq text (codes "0") then Truth false
    else IllTyped)

-- the value that a text has in a space
abbrev pub value_in : Space → List ℕ → Value
value_in (Integers least greatest) text =
    if is_integer_form text && (is_from least (integer_of text) && is_up_to greatest (integer_of text))
    then number_value text
    else IllTyped
value_in Decimals text = if is_decimal_form text then number_value text else IllTyped
value_in Booleans text = truth_value text
value_in Strings text = Text
value_in Moments text = if is_moment text then Stamp (moment_nanos text) (moment_zoned text) else IllTyped
value_in Days text = if is_day text then Day (day_nanos text) (day_zoned text) else IllTyped
value_in Opaques text = Opaque

abbrev pub value_of : Literal → Value
value_of literal = value_in (space_of literal) literal.lexical

-- the binary floating-point types
abbrev pub is_float_datatype : List ℕ → Bool
is_float_datatype datatype =
    pointwise nat_eq datatype (xsd (codes "double")) || pointwise nat_eq datatype (xsd (codes "float"))

-- a literal of a binary floating-point type
abbrev pub is_float : Literal → Bool
is_float literal = is_float_datatype literal.datatype

-- a literal of the datatype that is not ill-typed
abbrev pub is_well_typed : Value → Bool
is_well_typed IllTyped = false
is_well_typed (Num negative whole fraction) = true
is_well_typed Text = true
is_well_typed (Truth truth) = true
is_well_typed (Stamp nanos zoned) = true
is_well_typed (Day nanos zoned) = true
is_well_typed Opaque = true

abbrev pub has_datatype : Literal → List ℕ → Bool
has_datatype literal datatype = pointwise nat_eq literal.datatype datatype && is_well_typed (value_of literal)
