-- The sides of a bound.
use Rattle.std.specs.Prelude.{Bool, Option}
use Rattle.shx_term.specs.declared.term.Term.{Term}
use Rattle.value_space.specs.Compared.{Compared, compared_by, is_less, is_less_eq}
use Rattle.value_components.specs.declared.bounds.Side.{Side}
use Rattle.value_components.specs.declared.bounds.Side.TheVariants.{Above, From, Below, UpTo}

abbrev pub is_within : Side → Option Compared → Option Compared → Bool
is_within Above bound value = is_less bound value
is_within From bound value = is_less_eq bound value
is_within Below bound value = is_less value bound
is_within UpTo bound value = is_less_eq value bound

abbrev pub is_within_term : Side → Term → Term → Bool
is_within_term side bound t = is_within side (compared_by bound) (compared_by t)
