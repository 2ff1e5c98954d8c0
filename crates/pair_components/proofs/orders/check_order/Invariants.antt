use Rattle.std.proofs.Common.{◌≡◌, ◌++◌}
use Rattle.std.specs.Prelude.{take}
use Rattle.comp_core.specs.TermTests.{are_so_at}
use Rattle.pair_components.specs.PairResults.{each_pair_unless}
use Rattle.pair_components.specs.inner.Orders.{is_kept_by}
use Rattle.pair_components.proofs.orders.check_order.Given as goal

abbrev pub invariant-loop-v : goal.invariant-loop-v
invariant-loop-v g l =
    l.out.items
    ≡ l.fn.out.items
    ++ each_pair_unless (are_so_at (is_kept_by l.order) (g.V.GraphView.graph l.view)) l.kind l.at l.others
    (take l.v-index l.values)
