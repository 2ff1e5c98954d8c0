use Rattle.std.specs.Prelude.{◌≡◌, Some, map, slice_get, take}
use Rattle.shape_compile.proofs.numbers.numbers_of.Given as goal

abbrev pub invariant-loop-node : goal.invariant-loop-node
invariant-loop-node l =
    map (slice_get l.order.nodes.keys) l.numbers.items ≡ map Some (take l.node-index l.nodes)
