use Rattle.plan_swap.proofs.OwnLemmas.{alike_shapes}
use Rattle.plan_swap.proofs.laws.alike_shapes_find_alike.Goals as goal

pub returns : goal.returns
returns c = alike_shapes
