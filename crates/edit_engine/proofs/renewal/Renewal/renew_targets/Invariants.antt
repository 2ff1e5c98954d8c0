use Rattle.std.specs.Prelude.{◌≡◌, [], take}
use Rattle.shape_eval.specs.Planned.{plan_of}
use Rattle.edit_engine.specs.inner.Parts.{RenewsTargets, targets_among}
use Rattle.edit_engine.proofs.renewal.Renewal.renew_targets.Given as goal

abbrev pub invariant-loop-reader : goal.invariant-loop-reader
invariant-loop-reader g l = record {
  targets : RenewsTargets (plan_of l.plan).shapes (g.V.GraphView.graph l.before) (g.W.GraphView.graph l.after)
      (targets_among (take l.reader-index l.touched)) l.self;
  evaluated : l.self.evaluated.items ≡ [];
}
