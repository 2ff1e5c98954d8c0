use Rattle.std.specs.Prelude.{◌≡◌, false, take}
use Rattle.edit_engine.specs.inner.Told.{is_node_of_any}
use Rattle.edit_engine.proofs.target_change.is_target.Given as goal

abbrev pub invariant-loop-target : goal.invariant-loop-target
invariant-loop-target g l =
    is_node_of_any (g.V.GraphView.graph l.view) (take l.target-index l.target-items) l.node ≡ false
