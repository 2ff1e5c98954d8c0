use Rattle.std.specs.List.{IsDistinct}
use Rattle.std.proofs.Common.{refl}
use Rattle.shape_order.proofs.listed.Listed.new.Goals as goal

pub invariant_of-result : goal.invariant_of-result
unfolding IsDistinct
invariant_of-result c =
    rw (c.new.ensures.items, c.new-2.ensures.items) (record { told = λ i. refl; distinct = tt })
