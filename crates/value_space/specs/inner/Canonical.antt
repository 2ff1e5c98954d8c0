-- What each value of a literal keeps: one way to write a number.
use Rattle.std.specs.Prelude.{◌≡◌, ℕ, ◌+◌, ◌*◌, ◌^◌, ◌<◌, Bool, true}
use Rattle.std.proofs.Common.{ap}
use Rattle.std.specs.Coded.{×_prop, Π_prop, Unit-prop, le_prop}
use Rattle.value_space.specs.declared.value.Value.{Value}
use Rattle.value_space.specs.declared.value.Value.TheVariants.{Num, Text, Stamp, Day, IllTyped, Opaque}
use Rattle.value_space.specs.declared.value.Value.TheVariants.{Bool as Truth}

-- the fraction is below one, and zero is not negative
pub record IsCanonicalNumber (negative : Bool) (whole fraction : ℕ) : Type 0 where
  pub below_one : fraction < 10 ^ 38
  pub not_zero : negative ≡ true → 0 < whole * 10 ^ 38 + fraction

abbrev pub IsCanonical : Value → Type 0
IsCanonical (Num negative whole fraction) = IsCanonicalNumber negative whole fraction
IsCanonical Text = Unit {0}
IsCanonical (Truth truth) = Unit {0}
IsCanonical (Stamp nanos zoned) = Unit {0}
IsCanonical (Day nanos zoned) = Unit {0}
IsCanonical IllTyped = Unit {0}
IsCanonical Opaque = Unit {0}

-- a fact of which there is one proof, so that a type may keep it
IsCanonicalNumber-prop : (negative : Bool) (whole fraction : ℕ)
    → IsProp (IsCanonicalNumber negative whole fraction)
IsCanonicalNumber-prop negative whole fraction = λ p q.
    ap (λ both. record { below_one = both.0; not_zero = both.1 })
    (×_prop le_prop (Π_prop (λ _. le_prop)) (p.below_one, p.not_zero) (q.below_one, q.not_zero))

pub IsCanonical-prop : (value : Value) → IsProp (IsCanonical value)
IsCanonical-prop (Num negative whole fraction) = IsCanonicalNumber-prop negative whole fraction
IsCanonical-prop Text = Unit-prop
IsCanonical-prop (Truth truth) = Unit-prop
IsCanonical-prop (Stamp nanos zoned) = Unit-prop
IsCanonical-prop (Day nanos zoned) = Unit-prop
IsCanonical-prop IllTyped = Unit-prop
IsCanonical-prop Opaque = Unit-prop
