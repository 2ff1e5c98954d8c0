use Rattle.std.proofs.Common.{◌&&◌, sym, ap}
use Rattle.shx_term.specs.NumberForm.{is_wide_number}
use Rattle.value_space.proofs.NumberLemmas.{not_integer}
use Rattle.value_space.proofs.number.is_wide_integer.Goals as goal

pub returns-in-None : goal.returns-in-None
returns-in-None c =
    sym (ap (λ b. b && is_wide_number c.args.text.now) (not_integer c.args.text.now c.in-None.ensures))
