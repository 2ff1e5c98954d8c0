use Rattle.std.proofs.Common.{sym}
use Rattle.plan_swap.specs.Swap.{number_after}
use Rattle.plan_swap.proofs.OwnLemmas.{unless_answer}
use Rattle.plan_swap.proofs.swap.Swap.key.Goals as goal

pub returns-in_default : goal.returns-in_default
returns-in_default c = sym (unless_answer (number_after c.args.self.now) c.args.key c.in_default.not-Answer)
