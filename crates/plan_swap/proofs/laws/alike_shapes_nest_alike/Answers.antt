use Rattle.plan_swap.proofs.NestLemmas.{alike_shapes_nest}
use Rattle.plan_swap.proofs.laws.alike_shapes_nest_alike.Goals as goal

pub returns : goal.returns
returns c = alike_shapes_nest
