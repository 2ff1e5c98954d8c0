use Rattle.std.specs.Prelude.{take}
use Rattle.shape_eval.specs.Answered.{answered}
use Rattle.shape_eval.specs.Known.{IsKnownOf}
use Rattle.plan_swap.specs.Swap.{plan_after}
use Rattle.edit_engine.specs.inner.Recall.{BringsNested}
use Rattle.edit_engine.proofs.SwappedLemmas.{HasSwapped}
use Rattle.edit_engine.proofs.renewal.Renewal.evaluate_swapped.Given as goal

abbrev pub invariant-loop-pair : goal.invariant-loop-pair
invariant-loop-pair g l = record {
  done : HasSwapped l.swap (g.V.GraphView.graph l.view) l.initial.self.1.1.1.1.0.items l.fn.steps
      l.self.1.1.1.1.0.items l.steps l.swapped (take l.pair-index l.pair-items);
  nested : BringsNested (plan_after l.swap).shapes (g.V.GraphView.graph l.view) (answered l.fn.answers)
      (answered l.answers) (take l.pair-index l.pair-items) l.fn.nested l.nested;
  known : IsKnownOf l.known (g.V.GraphView.graph l.view);
}
