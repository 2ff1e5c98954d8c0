use Rattle.std.proofs.Common.{◌∙◌, ◌+◌, arith, get_or, take_all}
use Rattle.std.proofs.lemmas.List.{take_more}
use Rattle.comp_core.specs.declared.pair.Pair.{Pair}
use Rattle.read_records.specs.Recall.{kept_of}
use Rattle.shape_eval.specs.Answered.{answered}
use Rattle.edit_engine.proofs.BringsLemmas.{BringsNested-none, BringsNested-same, BringsNested-still}
use Rattle.edit_engine.proofs.BringsLemmas.{BringsNested-then}
use Rattle.edit_engine.proofs.CopiedLemmas.{IsRecallOf-copied}
use Rattle.edit_engine.proofs.SwappedLemmas.{HasSwapped-kept, HasSwapped-more, HasSwapped-none}
use Rattle.edit_engine.proofs.SwappedLemmas.{HasSwapped-same, few_swapped, nested_kept, still_recalled}
use Rattle.edit_engine.proofs.renewal.Renewal.evaluate_swapped.Goals as goal

pub loop-pair-init : goal.loop-pair-init
loop-pair-init g c = record {
  done = HasSwapped-none;
  nested = BringsNested-none (answered c.args.answers.now) c.args.nested.now
      (IsRecallOf-copied c.args.swap.now c.requires.swap c.shapes_are_numbered.ensures
      c.shapes_are_numbered-2.ensures (g.V.GraphView.graph c.args.view.now) (kept_of c.args.kept.now.recall)
      (answered c.args.answers.now) c.requires.copied c.alike_shapes_find_alike.ensures
      c.alike_shapes_nest_alike.ensures c.requires.kept.recall.recall);
  known = c.new-known.ensures (g.V.GraphView.graph c.args.view.now);
}

pub loop-pair-preserved-in-Some : goal.loop-pair-preserved-in-Some
loop-pair-preserved-in-Some g c =
    let graph = g.V.GraphView.graph c.args.view.now in
    let pairs = c.deref-pair-items.result.now in
    let at = c.loop-pair.pair-index in
    let zero : Pair = record { shape = 0; node = 0 } in
    let pair = get_or pairs at zero in
    let more = take_more pairs at zero c.loop-pair-test.true in
    let found = rw c.in-Some.is at c.in_ok-answer.ensures in
    let before = c.loop-pair.invariant in
    let first = nested_kept c.args.swap.now c.requires.swap c.shapes_are_numbered.ensures
    c.shapes_are_numbered-2.ensures graph c.args.kept.now c.requires.kept c.alike_shapes_nest_alike.ensures
    (answered c.args.answers.now) c.requires.copied pair found.0 in
    record {
      done = HasSwapped-kept pairs at zero c.loop-pair-test.true {new = c.push.new.self.items}
          (record { pair = pair; answer = c.in-Some.answer }) (λ i. pair)
          (record { rows = found.1.rows; reads = found.1.reads }) c.in_ok-push.ensures.items before.done
          found.0;
      nested = BringsNested-then more before.nested
          (BringsNested-still pair c.loop-pair.nested before.nested.remembers.recall
          (still_recalled before.nested.brings first));
      known = before.known;
    }

pub overflow_add-swapped : goal.overflow_add-swapped
overflow_add-swapped g c =
    let few = few_swapped c.deref-pair-items.result.now c.loop-pair.pair-index c.loop-pair.invariant.done in
    omega arith

pub loop-pair-preserved : goal.loop-pair-preserved
loop-pair-preserved g c =
    let pairs = c.deref-pair-items.result.now in
    let at = c.loop-pair.pair-index in
    let zero : Pair = record { shape = 0; node = 0 } in
    let more = take_more pairs at zero c.loop-pair-test.true in
    let none = rw c.in_default.is at c.in_ok-answer.ensures in
    let found = c.in_ok-found.ensures in
    let before = c.loop-pair.invariant in
    record {
      done = HasSwapped-more pairs at zero c.loop-pair-test.true {new = c.push-in-loop-pair.new.self.items}
          c.in_ok-found.found found.pair found.right c.in_ok-push-2.ensures.items before.done none
          c.evaluate.ensures.step (λ i. c.loop-pair.swapped + 1);
      nested = BringsNested-then more before.nested found.nested;
      known = c.evaluate.ensures.known;
    }

pub returns-clause-evaluated : goal.returns-clause-evaluated
returns-clause-evaluated g c =
    let all = take_all c.loop-pair.pair-index c.deref-pair-items.result.now c.loop-pair-test.false in
    (HasSwapped-same _ _ (all ∙ c.deref-pair-items.ensures.value) c.loop-pair.invariant.done).evaluated

pub returns-clause-count : goal.returns-clause-count
returns-clause-count g c =
    let all = take_all c.loop-pair.pair-index c.deref-pair-items.result.now c.loop-pair-test.false in
    (HasSwapped-same _ _ (all ∙ c.deref-pair-items.ensures.value) c.loop-pair.invariant.done).count_is

pub returns-clause-steps : goal.returns-clause-steps
returns-clause-steps g c =
    let all = take_all c.loop-pair.pair-index c.deref-pair-items.result.now c.loop-pair-test.false in
    (HasSwapped-same _ _ (all ∙ c.deref-pair-items.ensures.value) c.loop-pair.invariant.done).steps

pub returns-clause-nested : goal.returns-clause-nested
returns-clause-nested g c =
    let all = take_all c.loop-pair.pair-index c.deref-pair-items.result.now c.loop-pair-test.false in
    BringsNested-same _ _ (all ∙ c.deref-pair-items.ensures.value) c.loop-pair.invariant.nested
