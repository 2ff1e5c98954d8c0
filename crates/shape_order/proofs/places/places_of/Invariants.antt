use Rattle.shape_order.specs.inner.Placed.{ArePlaced}
use Rattle.shape_order.proofs.places.places_of.Given as goal

abbrev pub invariant-loop-place : goal.invariant-loop-place
invariant-loop-place l = ArePlaced l.count l.order l.place l.places.items
