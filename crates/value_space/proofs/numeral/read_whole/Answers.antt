use Rattle.std.proofs.Common.{◌≡◌, false, get_or, sym, ◌∙◌, arith}
use Rattle.std.proofs.lemmas.Grind.{common_steps}
use Rattle.shx_term.specs.NumberForm.{is_digit}
use Rattle.value_space.proofs.NumeralLemmas.{no_rest, no_number, number_behind-is}
use Rattle.value_space.proofs.numeral.read_whole.Goals as goal
use Rattle.value_space.proofs.numeral.read_whole.Goals.{in_default, in_default-2, in_default-3}

stops : (c : goal.Joined-rest-lt1) → is_digit (get_or c.loop-rest.rest.now 0 0) ≡ false
stops c =
    elim c.if-rest-lt1.branch [
      | in_default w ↦ grind (arith, common_steps)
      | in_default-2 w ↦ grind (arith, common_steps)
      | in_default-3 w ↦ grind (arith, common_steps)
    ]

pub returns-clause-number : goal.returns-clause-number
returns-clause-number c =
    sym (no_number c.loop-rest.number c.loop-rest.rest.now (stops c)) ∙ c.loop-rest.invariant.number
    ∙ number_behind-is c.args.text.now

pub returns-clause-rest : goal.returns-clause-rest
returns-clause-rest c = sym (no_rest c.loop-rest.rest.now (stops c)) ∙ c.loop-rest.invariant.rest
