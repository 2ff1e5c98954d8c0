use Rattle.std.specs.Prelude.{◌≡◌, ◌++◌, flat_map, take}
use Rattle.std.specs.Option.{option_to_list}
use Rattle.edit_engine.specs.inner.Told.{node_told}
use Rattle.edit_engine.proofs.target_change.add_told.Given as goal

abbrev pub invariant-loop-target : goal.invariant-loop-target
invariant-loop-target l = l.nodes.items
    ≡ l.fn.nodes.items ++ flat_map (λ a. option_to_list (node_told a l.t)) (take l.target-index l.targets)
