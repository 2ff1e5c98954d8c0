use Rattle.std.specs.Prelude.{take}
use Rattle.comp_core.specs.Memo.{RemembersSame}
use Rattle.shape_eval.specs.Planned.{plan_of}
use Rattle.shape_eval.specs.Known.{IsKnownOf}
use Rattle.edit_engine.specs.inner.Parts.{SameTargets, pairs_staying}
use Rattle.edit_engine.specs.inner.Recall.{BringsNested}
use Rattle.edit_engine.proofs.EvaluatesLemmas.{HasEvaluated}
use Rattle.edit_engine.proofs.renewal.Renewal.evaluate_touched.Given as goal

abbrev pub invariant-loop-reader : goal.invariant-loop-reader
invariant-loop-reader g l = record {
  done : HasEvaluated (plan_of l.plan).shapes (g.V.GraphView.graph l.view) l.fn.self.evaluated.items
      l.fn.steps l.self.evaluated.items l.steps
      (pairs_staying (take l.reader-index l.touched) l.fn.self.leaving.keys);
  nested : BringsNested (plan_of l.plan).shapes (g.V.GraphView.graph l.view) (g.M.Memo.recalled l.fn.memo)
      (g.M.Memo.recalled l.memo) (pairs_staying (take l.reader-index l.touched) l.fn.self.leaving.keys)
      l.fn.nested l.nested;
  kept : RemembersSame (g.M.Memo.kept l.fn.memo) (g.M.Memo.kept l.memo);
  known : IsKnownOf l.known (g.V.GraphView.graph l.view);
  others : SameTargets l.fn.self l.self;
}
