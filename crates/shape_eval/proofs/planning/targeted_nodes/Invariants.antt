use Rattle.std.proofs.Common.{◌≡◌}
use Rattle.std.specs.Prelude.{take, filter}
use Rattle.shape_eval.specs.Plan.{is_targeted, nodes_of}
use Rattle.shape_eval.proofs.planning.targeted_nodes.Given as goal

abbrev pub invariant-loop-shape : goal.invariant-loop-shape
invariant-loop-shape l = l.nodes.items ≡ nodes_of (filter is_targeted (take l.shape-index l.shapes))
