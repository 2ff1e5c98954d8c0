use Rattle.std.specs.Prelude.{◌≡◌, ◌++◌, drop}
use Rattle.std.specs.List.Sorted.{IsStrictlySortedBy}
use Rattle.shx_term.specs.InOrder.{in_order}
use Rattle.graph_view.proofs.changed.both.Given as goal

abbrev pub invariant-loop-x : goal.invariant-loop-x
invariant-loop-x g l =
    let cmp = g.T.Found.order l.pool.terms in
    IsStrictlySortedBy cmp l.rest
    × (l.all.items ++ in_order cmp (l.rest ++ drop l.x-index l.new) ≡ in_order cmp (l.fn.found ++ l.fn.new))
