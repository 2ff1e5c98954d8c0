use Rattle.std.proofs.Common.{◌∙◌, subst, take_all}
use Rattle.comp_core.specs.declared.pair.Pair.{Pair}
use Rattle.graph_view.specs.declared.key.Key.TheVariants.{Out}
use Rattle.read_records.proofs.PartLemmas.{AddsParts-answer, AddsParts-none, AddsParts-part, part_of}
use Rattle.read_records.specs.inner.Reached.{AddsParts}
use Rattle.read_records.proofs.reached.add_parts.Goals.{in-Answer+in_ok-insert-in-Answer}
use Rattle.read_records.proofs.reached.add_parts.Goals.{in_default+in_ok-add-in_default}
use Rattle.read_records.proofs.reached.add_parts.Goals as goal

pub loop-key-init : goal.loop-key-init
loop-key-init c = AddsParts-none c.args.answers.now.keys c.args.all.now

pub loop-key-preserved : goal.loop-key-preserved
loop-key-preserved c =
    let keys = c.keys-key-items.result.now in
    let at = c.loop-key.key-index in
    let inside = c.loop-key-test.true in
    elim c.match-key.branch [
      | in-Answer+in_ok-insert-in-Answer w ↦
          let pair : Pair = record { shape = w.in-Answer.shape; node = w.in-Answer.node } in
          rw (w.answers-is, w.all-is, w.in_ok-insert-in-Answer.ensures.keys)
          (AddsParts-answer keys at (Out 0 0) inside c.loop-key.invariant pair w.in-Answer.is)
      | in_default+in_ok-add-in_default w ↦ rw (w.answers-is, w.all-is)
          (AddsParts-part keys at (Out 0 0) inside c.loop-key.invariant
          (part_of _ w.in_default.not-Answer) w.in_ok-add-in_default.ensures.added)
    ]

pub returns : goal.returns
returns c =
    let keys = c.keys-key-items.result.now in
    let all = take_all c.loop-key.key-index keys c.loop-key-test.false in
    subst (λ ks. AddsParts ks c.args.answers.now.keys c.loop-key.answers.keys c.args.all.now c.loop-key.all)
    (all ∙ c.keys-key-items.ensures.keys) c.loop-key.invariant
