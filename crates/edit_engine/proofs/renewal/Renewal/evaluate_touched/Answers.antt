use Rattle.std.proofs.Common.{◌≡◌, rules, arith, refl, take, ◌+◌}
use denote.Enum.Declared.{tag_of}
use Rattle.read_records.specs.contracts.reader.Reader.{the_type}
use Rattle.read_records.specs.declared.reader.Reader.{Reader}
use Rattle.read_records.specs.declared.reader.Reader.TheVariants.{OfPair, OfTarget}
use Rattle.read_records.specs.Reader.{reader_kind}
use Rattle.edit_engine.specs.Pairs.{IsKnownPair}
use Rattle.edit_engine.specs.inner.Parts.{pairs_staying}
use Rattle.shape_eval.proofs.RecalledLemmas.{RemembersSame-then}
use Rattle.edit_engine.proofs.BringsLemmas.{BringsNested-none, BringsNested-same, BringsNested-then}
use Rattle.edit_engine.proofs.BringsLemmas.{RemembersSame-itself}
use Rattle.edit_engine.proofs.EvaluatesLemmas.{HasEvaluated-more, HasEvaluated-none, HasEvaluated-same}
use Rattle.edit_engine.proofs.EvaluatesLemmas.{holds_of_staying, staying-left, staying-pair}
use Rattle.edit_engine.proofs.EvaluatesLemmas.{among_at_first, staying-target}
use Rattle.edit_engine.proofs.renewal.Renewal.evaluate_touched.Goals as goal

-- a reader of the first variant is a target
target_kind : (r : Reader) → tag_of the_type r ≡ 0 → reader_kind r ≡ 0
target_kind (OfTarget n) e = refl
target_kind (OfPair p) e = absurd (omega (arith, e))

pub evaluate-requires-clause-pair : goal.evaluate-requires-clause-pair
evaluate-requires-clause-pair g c =
    holds_of_staying c.args.touched.now c.args.self.now.leaving.keys c.loop-reader.reader-index (OfTarget 0)
    c.loop-reader-test.true c.in-OfPair.pair c.in-OfPair.is
    (IsKnownPair c.args.plan.now.shapes.items (g.V.GraphView.graph c.args.view.now)) c.requires.known
    (among_at_first _ _ c.in-OfPair.pair _ _ c.loop-reader.invariant.others.leaving c.contains.ensures
    c.if-not-contains.true)

pub loop-reader-init : goal.loop-reader-init
loop-reader-init g c = record {
  done = HasEvaluated-none c.args.self.now.evaluated.items c.args.steps.now;
  nested = BringsNested-none (g.M.Memo.recalled c.args.memo.now) c.args.nested.now c.requires.recall;
  kept = RemembersSame-itself (g.M.Memo.kept c.args.memo.now);
  known = c.new-known.ensures (g.V.GraphView.graph c.args.view.now);
  others = record { targets = refl; entering = refl; leaving = refl };
}

pub loop-reader-preserved : goal.loop-reader-preserved
loop-reader-preserved g c =
    let readers = c.args.touched.now in
    let leaving = c.args.self.now.leaving.keys in
    let at = c.loop-reader.reader-index in
    let inside = c.loop-reader-test.true in
    let before = c.loop-reader.invariant in
    let taken = pairs_staying (take at readers) leaving in
    let more = pairs_staying (take (at + 1) readers) leaving in
    elim c.match-reader.branch [
      | goal.in-OfPair+then-not-contains+in_ok-evaluated+in_ok-push w ↦
          let stays = staying-pair readers leaving at (OfTarget 0) inside w.in-OfPair.pair w.in-OfPair.is
          (among_at_first _ _ w.in-OfPair.pair _ _ before.others.leaving w.contains.ensures
          w.if-not-contains.true) in
          rw (w.self-is, w.memo-is, w.nested-is, w.steps-is, w.known-is) (record {
            done = HasEvaluated-more {new = w.push.new.self.items} w.in-OfPair.pair
                w.in_ok-evaluated.evaluated w.in_ok-evaluated.ensures.pair w.in_ok-evaluated.ensures.right
                w.in_ok-push.ensures.items w.evaluate.ensures.step stays before.done;
            nested = BringsNested-then stays before.nested w.in_ok-evaluated.ensures.nested;
            kept = RemembersSame-then _ _ _ before.kept w.evaluate.ensures.kept;
            known = w.evaluate.ensures.known;
            others = record {
              targets = before.others.targets;
              entering = before.others.entering;
              leaving = before.others.leaving;
            };
          })
      | goal.in_default w ↦ elim w.in_default.branch [
        | goal.in_default-via-in-OfTarget-1 w' ↦
            let same : taken ≡ more =
            staying-target readers leaving at (OfTarget 0) inside (search (rules, target_kind)) in
            rw (w.self-is, w.memo-is, w.nested-is, w.steps-is, w.known-is) (record {
              done = HasEvaluated-same taken more same before.done;
              nested = BringsNested-same taken more same before.nested;
              kept = before.kept;
              known = before.known;
              others = before.others;
            })
        | goal.in_default-via-in-OfPair+else-not-contains w' ↦
            let same = staying-left readers leaving at (OfTarget 0) inside w'.in-OfPair.pair w'.in-OfPair.is
            (among_at_first _ _ w'.in-OfPair.pair _ _ before.others.leaving w'.contains.ensures
            w'.if-not-contains.false) in
            rw (w.self-is, w.memo-is, w.nested-is, w.steps-is, w.known-is) (record {
              done = HasEvaluated-same taken more same before.done;
              nested = BringsNested-same taken more same before.nested;
              kept = before.kept;
              known = before.known;
              others = before.others;
            })
      ]
    ]
