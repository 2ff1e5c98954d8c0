use Rattle.std.proofs.Common.{◌≡◌}
use Rattle.std.specs.Prelude.{take, map}
use Rattle.value_space.specs.Compared.{read_as}
use Rattle.pair_components.specs.inner.Orders.{compared_at}
use Rattle.pair_components.proofs.orders.read_terms.Given as goal

abbrev pub invariant-loop-id : goal.invariant-loop-id
invariant-loop-id g l =
    map read_as l.read.items ≡ map (compared_at (g.V.GraphView.graph l.view)) (take l.id-index l.ids)
