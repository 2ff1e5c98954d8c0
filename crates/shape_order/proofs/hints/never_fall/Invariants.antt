use Rattle.std.specs.Prelude.{slice_index}
use Rattle.shape_order.specs.Refs.{refs_of}
use Rattle.shape_order.specs.inner.Rising.{NeverFalls}
use Rattle.shape_order.proofs.hints.never_fall.Given as goal

abbrev pub invariant-loop-shape : goal.invariant-loop-shape
invariant-loop-shape l = NeverFalls (refs_of l.refs) l.shape (slice_index l.numbers)
