use Rattle.std.specs.Prelude.{take}
use Rattle.comp_core.specs.Memo.{RemembersSame}
use Rattle.shape_eval.specs.Known.{IsKnownOf}
use Rattle.shape_eval.specs.Planned.{plan_of}
use Rattle.edit_engine.specs.inner.Recall.{BringsNested}
use Rattle.edit_engine.proofs.EvaluatesLemmas.{HasEvaluated}
use Rattle.edit_engine.proofs.renewal.Renewal.evaluate_entering.Given as goal

abbrev pub invariant-loop-pair : goal.invariant-loop-pair
invariant-loop-pair g l = record {
  done : HasEvaluated (plan_of l.plan).shapes (g.V.GraphView.graph l.view) l.initial.self.1.1.1.1.0.items
      l.fn.steps l.self.1.1.1.1.0.items l.steps (take l.pair-index l.pair-items);
  nested : BringsNested (plan_of l.plan).shapes (g.V.GraphView.graph l.view) (g.M.Memo.recalled l.fn.memo)
      (g.M.Memo.recalled l.memo) (take l.pair-index l.pair-items) l.fn.nested l.nested;
  kept : RemembersSame (g.M.Memo.kept l.fn.memo) (g.M.Memo.kept l.memo);
  known : IsKnownOf l.known (g.V.GraphView.graph l.view);
}
