-- What is read of the digits of a number: what takes more digits than there is room for is none.
use Rattle.std.specs.Prelude.{ℕ, ◌+◌, ◌*◌, ◌^◌, ◌≤◌, ◌<◌, Bool, true, false, not, ◌==◌, ◌||◌, ◌&&◌, nat_lt, ℤ}
use Rattle.std.specs.Prelude.{pos, neg_ℤ, List, [], ◌∷◌, length, Option, Some, None, if◌then◌else◌}
use Rattle.shx_term.specs.NumberForm.{is_digit, number_of, without_leading_zeros, without_trailing_zeros}
use Rattle.value_space.specs.Numbers.{number_in_places}
use Rattle.value_space.specs.declared.value.Value.{Value}
use Rattle.value_space.specs.declared.value.Value.TheVariants.{Num}

-- what stands behind the digits that a text begins with
abbrev pub behind_digits : List ℕ → List ℕ
behind_digits [] = []
behind_digits (b ∷ bs) = if is_digit b then behind_digits bs else b ∷ bs

-- the number that digits write
abbrev pub narrow_number : List ℕ → Option ℕ
narrow_number digits =
    if nat_lt 38 (length (without_leading_zeros digits)) then None else Some (number_of digits)

-- the digits as a fraction of so many places; one that takes more is none
abbrev pub narrow_fraction : ℕ → List ℕ → Option ℕ
narrow_fraction places digits =
    if nat_lt places (length (without_trailing_zeros digits)) then None
    else Some (number_in_places places digits)

-- a digit more behind a number
abbrev pub with_digit : Option ℕ → ℕ → Option ℕ
with_digit None digit = None
with_digit (Some number) digit = if nat_lt number (10 ^ 37) then Some (number * 10 + digit) else None

-- a digit more behind a fraction, of the unit of its place, which is 0 behind the last one
abbrev pub with_place : Option ℕ → ℕ → ℕ → Option ℕ
with_place None unit digit = None
with_place (Some fraction) unit digit =
    if nat_lt 0 unit || (digit == 0) then Some (fraction + digit * unit) else None

-- what may still be added to a fraction that stays below one
pub record HasRoom (fraction room : ℕ) : Type 0 where
  pub sum : fraction + room ≤ 10 ^ 38
  pub below : fraction < 10 ^ 38

abbrev pub has_none : Option ℕ → Option ℕ → Bool
has_none None fraction = true
has_none (Some whole) None = true
has_none (Some whole) (Some fraction) = false

abbrev pub signed : Bool → ℕ → ℤ
signed negative whole = if negative then neg_ℤ (pos whole) else pos whole

abbrev pub number_from : Bool → ℕ → ℕ → Value
number_from minus whole fraction = Num (minus && not ((whole == 0) && (fraction == 0))) whole fraction
