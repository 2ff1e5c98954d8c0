use Rattle.std.proofs.Common.{◌≡◌}
use Rattle.std.specs.Prelude.{take}
use Rattle.shape_eval.specs.Plan.{nodes_of}
use Rattle.shape_eval.proofs.planning.places_of.Given as goal

abbrev pub invariant-loop-shape : goal.invariant-loop-shape
invariant-loop-shape l = l.places.keys ≡ take l.shape-index (nodes_of l.shapes)
