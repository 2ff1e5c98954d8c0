use Rattle.std.proofs.Common.{refl}
use Rattle.value_space.proofs.NumberLemmas.{not_integer}
use Rattle.value_space.proofs.number.integer_value.Goals as goal

pub returns-in_default : goal.returns-in_default
returns-in_default c = rw (not_integer c.args.text.now c.in_default.ensures) refl
