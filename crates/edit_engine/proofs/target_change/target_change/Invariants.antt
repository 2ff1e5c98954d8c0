use Rattle.std.specs.Prelude.{◌≡◌, filter, slice_get, take}
use Rattle.shape_eval.specs.Planned.{plan_of}
use Rattle.shape_eval.specs.Targets.{targets_of}
use Rattle.edit_engine.specs.inner.Told.{is_only_in}
use Rattle.edit_engine.proofs.target_change.target_change.Given as goal

abbrev pub invariant-loop-node : goal.invariant-loop-node
invariant-loop-node g l = record {
  entering : l.entering.items
      ≡ filter (is_only_in (g.W.GraphView.graph l.after) (g.V.GraphView.graph l.before)
      (targets_of (slice_get (plan_of l.plan).shapes l.shape))) (take l.node-index l.node-items);
  leaving : l.leaving.items
      ≡ filter (is_only_in (g.V.GraphView.graph l.before) (g.W.GraphView.graph l.after)
      (targets_of (slice_get (plan_of l.plan).shapes l.shape))) (take l.node-index l.node-items);
}
