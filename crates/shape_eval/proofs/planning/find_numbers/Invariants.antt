use Rattle.std.proofs.Common.{◌≡◌}
use Rattle.std.specs.Prelude.{nat_eq, flat_map, position, take}
use Rattle.shape_eval.specs.Plan.{if_any}
use Rattle.shape_eval.proofs.planning.find_numbers.Given as goal

abbrev pub invariant-loop-node : goal.invariant-loop-node
invariant-loop-node l =
    l.found.items
    ≡ flat_map (λ node. if_any (position (nat_eq node) l.places.keys)) (take l.node-index l.nodes)
