use Rattle.std.proofs.Common.{◌≡◌, ◌++◌}
use Rattle.std.specs.Prelude.{take, map}
use Rattle.value_space.specs.Compared.{read_as}
use Rattle.pair_components.specs.inner.Orders.{beside_read}
use Rattle.pair_components.proofs.orders.check_beside.Given as goal

abbrev pub invariant-loop-other : goal.invariant-loop-other
invariant-loop-other l =
    l.out.items
    ≡ l.fn.out.items
    ++ beside_read l.order l.kind l.at l.node (read_as l.term) (map read_as (take l.other-index l.others))
