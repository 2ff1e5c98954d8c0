use Rattle.std.specs.Prelude.{slice_index}
use Rattle.shape_order.specs.Refs.{refs_of}
use Rattle.shape_order.specs.inner.Rising.{RiseBelow}
use Rattle.shape_order.proofs.hints.first_not_rising.Given as goal

abbrev pub invariant-loop-shape : goal.invariant-loop-shape
invariant-loop-shape l = RiseBelow (refs_of l.refs) (slice_index l.numbers) l.shape
