use Rattle.std.specs.List.{IsDistinct}
use Rattle.std.proofs.Common.{sym, subst}
use Rattle.graph_view.specs.Key.{same_key}
use Rattle.graph_view.proofs.reads.Reads.new.Goals as goal

pub invariant_of-result : goal.invariant_of-result
unfolding IsDistinct
invariant_of-result c = subst (IsDistinct same_key) (sym c.new.ensures) tt
