use Rattle.std.proofs.Common.{arith}
use Rattle.std.proofs.lemmas.Grind.{common_steps}
use Rattle.shape_check.proofs.FirstLemmas.{first-map}
use Rattle.shape_check.proofs.checking.first_fault_by.Goals as goal

pub loop-declared-preserved : goal.loop-declared-preserved
loop-declared-preserved c = grind (arith, common_steps, first-map)
