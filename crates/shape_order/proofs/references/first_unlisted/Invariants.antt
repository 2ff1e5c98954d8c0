use Rattle.std.specs.Prelude.{◌-◌, length}
use Rattle.shape_order.specs.inner.Search.{AreListed}
use Rattle.shape_order.proofs.references.first_unlisted.Given as goal

abbrev pub invariant-loop-place : goal.invariant-loop-place
invariant-loop-place l = AreListed l.shapes l.listed l.from l.place

abbrev pub decreases-loop-place : goal.decreases-loop-place
decreases-loop-place l = length l.shapes - l.place
