use Rattle.std.specs.Prelude.{ℕ, ◌<◌, ◌≤◌, slice_index}
use Rattle.shape_order.proofs.levels.first_above.Given as goal

abbrev pub invariant-loop-shape : goal.invariant-loop-shape
invariant-loop-shape l = (k : ℕ) → k < l.shape → slice_index l.levels k ≤ l.limit
