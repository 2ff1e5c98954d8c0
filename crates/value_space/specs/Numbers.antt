-- The number of a lexical form, in the parts that a value keeps: its sign, its whole part, and its fraction
-- in units of 10^-38.
use Rattle.std.specs.Prelude.{ℕ, ◌+◌, ◌*◌, ◌^◌, Bool, not, ◌&&◌, ◌==◌, ℤ, pos, neg_ℤ, List, ◌++◌, take}
use Rattle.std.specs.Prelude.{replicate, if◌then◌else◌}
use Rattle.shx_term.specs.NumberForm.{is_minus, begins_with, number_of, whole_digits, fraction_digits}

-- digits as a fraction of so many places: zeros are added behind, or what is behind those places is left out
abbrev pub number_in_places : ℕ → List ℕ → ℕ
number_in_places places digits = number_of (take places (digits ++ replicate places 48))

abbrev pub whole_of : List ℕ → ℕ
whole_of text = number_of (whole_digits text)

abbrev pub fraction_of : List ℕ → ℕ
fraction_of text = number_in_places 38 (fraction_digits text)

-- the whole number of units of 10^-38, with its sign
abbrev pub units : Bool → ℕ → ℕ → ℤ
units negative whole fraction =
    if negative then neg_ℤ (pos (whole * 10 ^ 38 + fraction)) else pos (whole * 10 ^ 38 + fraction)

-- a minus, and not zero
abbrev pub is_negative : List ℕ → Bool
is_negative text = begins_with is_minus text && not ((whole_of text == 0) && (fraction_of text == 0))

-- the number of a form without a point
abbrev pub integer_of : List ℕ → ℤ
integer_of text = if begins_with is_minus text then neg_ℤ (pos (whole_of text)) else pos (whole_of text)
