use Rattle.std.proofs.Common.{◌∙◌, take_all, get_or}
use Rattle.std.proofs.lemmas.List.{take_more}
use Rattle.comp_core.specs.declared.pair.Pair.{Pair}
use Rattle.shape_eval.proofs.RecalledLemmas.{RemembersSame-then}
use Rattle.edit_engine.proofs.BringsLemmas.{BringsNested-none, BringsNested-same, BringsNested-then}
use Rattle.edit_engine.proofs.BringsLemmas.{RemembersSame-itself}
use Rattle.edit_engine.proofs.EvaluatesLemmas.{HasEvaluated-more, HasEvaluated-none, HasEvaluated-same}
use Rattle.edit_engine.proofs.renewal.Renewal.evaluate_entering.Goals as goal

pub loop-pair-init : goal.loop-pair-init
loop-pair-init g c = record {
  done = HasEvaluated-none c.args.self.now.evaluated.items c.args.steps.now;
  nested = BringsNested-none (g.M.Memo.recalled c.args.memo.now) c.args.nested.now c.requires.recall;
  kept = RemembersSame-itself (g.M.Memo.kept c.args.memo.now);
  known = c.new-known.ensures (g.V.GraphView.graph c.args.view.now);
}

pub loop-pair-preserved : goal.loop-pair-preserved
loop-pair-preserved g c =
    let pairs = c.deref-pair-items.result.now in
    let at = c.loop-pair.pair-index in
    let zero : Pair = record { shape = 0; node = 0 } in
    let more = take_more pairs at zero c.loop-pair-test.true in
    let found = c.in_ok-evaluated.ensures in
    let before = c.loop-pair.invariant in
    record {
      done = HasEvaluated-more {new = c.push.new.self.items} (get_or pairs at zero)
          c.in_ok-evaluated.evaluated found.pair found.right c.in_ok-push.ensures.items
          c.evaluate.ensures.step more before.done;
      nested = BringsNested-then more before.nested found.nested;
      kept = RemembersSame-then _ _ _ before.kept c.evaluate.ensures.kept;
      known = c.evaluate.ensures.known;
    }

pub returns-clause-evaluated : goal.returns-clause-evaluated
returns-clause-evaluated g c =
    let all = take_all c.loop-pair.pair-index c.deref-pair-items.result.now c.loop-pair-test.false in
    (HasEvaluated-same _ _ (all ∙ c.deref-pair-items.ensures.value) c.loop-pair.invariant.done).evaluated

pub returns-clause-steps : goal.returns-clause-steps
returns-clause-steps g c =
    let all = take_all c.loop-pair.pair-index c.deref-pair-items.result.now c.loop-pair-test.false in
    (HasEvaluated-same _ _ (all ∙ c.deref-pair-items.ensures.value) c.loop-pair.invariant.done).steps

pub returns-clause-nested : goal.returns-clause-nested
returns-clause-nested g c =
    let all = take_all c.loop-pair.pair-index c.deref-pair-items.result.now c.loop-pair-test.false in
    BringsNested-same _ _ (all ∙ c.deref-pair-items.ensures.value) c.loop-pair.invariant.nested
