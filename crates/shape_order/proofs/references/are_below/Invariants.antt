use Rattle.std.specs.Prelude.{ℕ, ◌<◌, slice_index}
use Rattle.shape_order.proofs.references.are_below.Given as goal

abbrev pub invariant-loop-shape : goal.invariant-loop-shape
invariant-loop-shape l = (k : ℕ) → k < l.shape-index → slice_index l.shapes k < l.count
