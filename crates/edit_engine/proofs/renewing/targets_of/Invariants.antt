use Rattle.std.specs.Prelude.{take}
use Rattle.shape_eval.specs.Planned.{plan_of}
use Rattle.edit_engine.specs.inner.Parts.{OpensTargets}
use Rattle.edit_engine.proofs.renewing.targets_of.Given as goal

abbrev pub invariant-loop-shape : goal.invariant-loop-shape
invariant-loop-shape g l =
    OpensTargets (plan_of l.plan).shapes (g.V.GraphView.graph l.view) (take l.shape-index l.shape-items)
    l.renewal
