use Rattle.std.specs.Prelude.{length}
use Rattle.shape_order.specs.Refs.{refs_of}
use Rattle.shape_order.proofs.LeastLemmas.{AreWithin}
use Rattle.shape_order.proofs.references.are_shapes.Given as goal

abbrev pub invariant-loop-shape : goal.invariant-loop-shape
invariant-loop-shape l = AreWithin (refs_of l.refs) (length l.refs) l.shape
