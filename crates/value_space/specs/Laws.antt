-- Words of the laws of the order of values.
use Rattle.std.specs.Prelude.{◌⊎◌}
use Rattle.value_space.specs.declared.value.Value.{Value}
use Rattle.value_space.specs.declared.value.Value.TheVariants.{Num, Text, Stamp, Day, IllTyped, Opaque}
use Rattle.value_space.specs.declared.value.Value.TheVariants.{Bool as Truth}

abbrev pub IsNumber : Value → Type 0
IsNumber (Num negative whole fraction) = Unit {0}
IsNumber Text = ⊥
IsNumber (Truth truth) = ⊥
IsNumber (Stamp nanos zoned) = ⊥
IsNumber (Day nanos zoned) = ⊥
IsNumber IllTyped = ⊥
IsNumber Opaque = ⊥

-- one of three facts holds, and the other two do not
abbrev pub IsExactlyOne : Type 0 → Type 0 → Type 0 → Type 0
IsExactlyOne P Q R = (P × (¬ Q) × (¬ R)) ⊎ ((¬ P) × Q × (¬ R)) ⊎ ((¬ P) × (¬ Q) × R)
