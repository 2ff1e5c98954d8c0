use Rattle.std.proofs.Common.{◌≡◌, ◌+◌, length, map, take}
use Rattle.std.specs.Prelude.{flat_map}
use Rattle.shape_eval.specs.Answered.{answered}
use Rattle.shape_eval.specs.Known.{IsKnownOf}
use Rattle.shape_eval.specs.Planned.{plan_of}
use Rattle.shape_eval.specs.Recalled.{BringsNested}
use Rattle.shape_eval.specs.Report.{at_shape}
use Rattle.shape_eval.specs.Results.{results}
use Rattle.shape_eval.specs.Targets.{target_nodes}
use Rattle.shacl_run.proofs.evaluation.evaluate.Given as goal

abbrev pub invariant-loop-shape : goal.invariant-loop-shape
invariant-loop-shape g l =
    let graph = g.V.GraphView.graph l.view in
    let shapes = (plan_of l.plan).shapes in
    let seen =
    flat_map (λ n. map (at_shape n) (target_nodes shapes graph n)) (take l.shape-index l.shape-items) in
    record {
      known : IsKnownOf l.known graph;
      rows : l.rows.items ≡ flat_map (results shapes graph) seen;
      steps : l.steps ≡ l.fn.steps + length seen;
      nested : BringsNested (λ a keys. Unit {0}) shapes graph (answered l.initial.answers)
          (answered l.answers) seen l.fn.nested l.nested;
    }
