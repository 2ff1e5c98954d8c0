-- The lexical forms of xsd:integer and xsd:decimal (XML Schema 1.1 part 2, sections 3.4.13 and 3.3.3), and
-- their digits.
use Rattle.std.specs.Prelude.{ℕ, ◌-◌, Bool, false, ◌&&◌, ◌||◌, ◌==◌, nat_le, nat_lt, List, [], ◌∷◌, ◌++◌, map}
use Rattle.std.specs.Prelude.{length, reverse, if◌then◌else◌}
use Rattle.std.specs.List.{list_all, before_first, after_first}
use Rattle.std.specs.Int.Digits.{number_from_digits}

abbrev pub is_digit : ℕ → Bool
is_digit b = nat_le 48 b && nat_le b 57

abbrev pub is_minus : ℕ → Bool
is_minus b = b == 45

abbrev pub is_sign : ℕ → Bool
is_sign b = (b == 43) || (b == 45)

abbrev pub is_point : ℕ → Bool
is_point b = b == 46

-- there is a first byte, and it passes
abbrev pub begins_with : (ℕ → Bool) → List ℕ → Bool
begins_with p [] = false
begins_with p (b ∷ bs) = p b

-- without a first byte that passes
abbrev pub without_first : (ℕ → Bool) → List ℕ → List ℕ
without_first p [] = []
without_first p (b ∷ bs) = if p b then bs else b ∷ bs

-- one digit or more, and nothing else
abbrev pub are_digits : List ℕ → Bool
are_digits [] = false
are_digits (b ∷ bs) = list_all is_digit (b ∷ bs)

-- the number that digits write
abbrev pub number_of : List ℕ → ℕ
number_of digits = number_from_digits 10 (map (λ b. b - 48) digits)

-- before and behind the point
abbrev pub whole_digits : List ℕ → List ℕ
whole_digits text = before_first is_point (without_first is_sign text)

abbrev pub fraction_digits : List ℕ → List ℕ
fraction_digits text = after_first is_point (without_first is_sign text)

-- a sign or none, then digits
abbrev pub is_integer_form : List ℕ → Bool
is_integer_form text = are_digits (without_first is_sign text)

-- a sign or none, then digits with at most one point before, among or behind them
abbrev pub is_decimal_form : List ℕ → Bool
is_decimal_form text = are_digits (whole_digits text ++ fraction_digits text)

abbrev pub without_leading_zeros : List ℕ → List ℕ
without_leading_zeros [] = []
without_leading_zeros (b ∷ bs) = if b == 48 then without_leading_zeros bs else b ∷ bs

abbrev pub without_trailing_zeros : List ℕ → List ℕ
without_trailing_zeros digits = reverse (without_leading_zeros (reverse digits))

-- a number that takes more than 38 digits before the point, or behind it
abbrev pub is_wide_number : List ℕ → Bool
is_wide_number text = nat_lt 38 (length (without_leading_zeros (whole_digits text)))
    || nat_lt 38 (length (without_trailing_zeros (fraction_digits text)))
