use Rattle.std.proofs.Common.{◌∙◌, get_or, sym, take_all}
use Rattle.std.proofs.lemmas.List.{take_more}
use Rattle.comp_core.specs.Memo.{lent, remembered_of}
use Rattle.comp_core.specs.declared.pair.Pair.{Pair}
use Rattle.read_records.specs.Recall.{kept_of}
use Rattle.edit_engine.proofs.CopyingLemmas.{AreCopied-all, AreCopiedOf-more, AreCopiedOf-passed}
use Rattle.edit_engine.proofs.CopyingLemmas.{none_after}
use Rattle.edit_engine.proofs.RememberedLemmas.{recalled_settled}
use Rattle.edit_engine.proofs.swapping.answers_after.Goals as goal

pub loop-pair-preserved-in_default : goal.loop-pair-preserved-in_default
loop-pair-preserved-in_default c =
    let pairs = c.deref-pair-items.result.now in
    let at = c.loop-pair.pair-index in
    let zero : Pair = record { shape = 0; node = 0 } in
    AreCopiedOf-passed (get_or pairs at zero) (take_more pairs at zero c.loop-pair-test.true)
    (none_after c.args.swap.now (kept_of c.args.recall.now) (get_or pairs at zero) c.in_default.ensures)
    c.loop-pair.invariant

pub loop-pair-preserved : goal.loop-pair-preserved
loop-pair-preserved c =
    let pairs = c.deref-pair-items.result.now in
    let at = c.loop-pair.pair-index in
    let zero : Pair = record { shape = 0; node = 0 } in
    let pair = get_or pairs at zero in
    let kept = recalled_settled c.args.recall.now c.requires.settled in
    let copy = c.in_ok-answer.ensures in
    AreCopiedOf-more pair (take_more pairs at zero c.loop-pair-test.true) c.requires.swap
    c.shapes_are_numbered.ensures c.shapes_are_numbered-2.ensures c.in-Some.after (sym c.in-Some.ensures)
    (lent c.in-Some-find.found) (remembered_of c.in_ok-answer.field-0)
    (sym (c.in-Some-find.ensures ∙ (λ i. kept i pair))) (record { rows = copy.rows; reads = copy.reads })
    c.in_ok-remember.ensures.remembered c.loop-pair.invariant

pub returns : goal.returns
returns c =
    let all = take_all c.loop-pair.pair-index c.deref-pair-items.result.now c.loop-pair-test.false in
    AreCopied-all c.in_ok-pairs.field-0.items c.in_ok-pairs.ensures
    (rw (all ∙ c.deref-pair-items.ensures.value) at c.loop-pair.invariant)
