use Rattle.std.proofs.Common.{◌≡◌, ◌+◌, length, map, take}
use Rattle.shape_eval.specs.Answered.{answered}
use Rattle.shape_eval.specs.Known.{IsKnownOf}
use Rattle.shape_eval.specs.Planned.{plan_of}
use Rattle.shape_eval.specs.Recalled.{BringsNested}
use Rattle.shape_eval.specs.Report.{at_shape}
use Rattle.shape_eval.specs.Results.{results}
use Rattle.shacl_run.specs.inner.NodeRows.{AreRowsAt}
use Rattle.shacl_run.proofs.evaluation.rows_at.Given as goal

abbrev pub invariant-loop-node : goal.invariant-loop-node
invariant-loop-node g l =
    let graph = g.V.GraphView.graph l.view in
    let shapes = (plan_of l.plan).shapes in
    let seen = take l.node-index l.nodes in
    record {
      known : IsKnownOf l.known graph;
      rows : AreRowsAt (λ node. results shapes graph (at_shape l.shape node)) seen l.found.items;
      steps : l.steps ≡ l.fn.steps + length seen;
      nested : BringsNested (λ a keys. Unit {0}) shapes graph (answered l.fn.answers) (answered l.answers)
          (map (at_shape l.shape) seen) l.fn.nested l.nested;
    }
