use Rattle.std.specs.Prelude.{take, All}
use Rattle.comp_core.specs.Memo.{RemembersSame}
use Rattle.shape_eval.specs.Known.{IsKnownOf}
use Rattle.shape_eval.specs.Nested.{nested_in}
use Rattle.shape_eval.specs.Recalled.{Brings, IsRecallOf}
use Rattle.shape_eval.specs.inner.Told.{IsHeld}
use Rattle.shape_eval.proofs.answering.+answer.Given as goal

abbrev pub decreases-answer : goal.decreases-answer
decreases-answer g l = l.pair.shape

abbrev pub invariant-loop-below : goal.invariant-loop-below
invariant-loop-below g l = record {
  known : IsKnownOf l.known (g.V.GraphView.graph l.view);
  recall : IsRecallOf g.M.Noted.Notes.has l.shapes (g.V.GraphView.graph l.view) (g.M.Memo.recalled l.memo);
  brings : Brings (g.M.Memo.recalled l.fn.memo) (g.M.Memo.recalled l.memo)
      (nested_in l.shapes (g.V.GraphView.graph l.view) l.pair) l.fn.nested l.nested;
  kept : RemembersSame (g.M.Memo.kept l.fn.memo) (g.M.Memo.kept l.memo);
  held : All (IsHeld l.shapes (g.M.Memo.recalled l.memo)) (take l.below-index l.below-items);
}
