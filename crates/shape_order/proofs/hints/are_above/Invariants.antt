use Rattle.std.specs.Prelude.{ℕ, ◌<◌, slice_index}
use Rattle.shape_order.proofs.hints.are_above.Given as goal

abbrev pub invariant-loop-shape : goal.invariant-loop-shape
invariant-loop-shape l =
    (k : ℕ) → k < l.shape-index → l.number < slice_index l.numbers (slice_index l.shapes k)
