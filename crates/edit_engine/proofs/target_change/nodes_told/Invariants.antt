use Rattle.std.specs.Prelude.{◌≡◌, map}
use Rattle.edit_engine.specs.inner.Told.{nodes_told}
use Rattle.edit_engine.proofs.target_change.nodes_told.Given as goal

abbrev pub invariant-loop-t : goal.invariant-loop-t
invariant-loop-t g l =
    l.nodes.items ≡ nodes_told (g.V.GraphView.graph l.view) l.targets (map (λ t. t.now) l.yielded)
