use Rattle.std.specs.List.{IsDistinct}
use Rattle.std.proofs.Common.{sym, subst}
use Rattle.graph_view.specs.Key.{same_key}
use Rattle.graph_view.proofs.reads.Reads.clear.Goals as goal

pub invariant_of-self : goal.invariant_of-self
unfolding IsDistinct
invariant_of-self c = subst (IsDistinct same_key) (sym c.clear.ensures) tt
