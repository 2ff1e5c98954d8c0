use Rattle.std.specs.Prelude.{◌<◌, [], length}
use Rattle.std.proofs.Common.{sym, ap, subst, arith}
use Rattle.comp_core.specs.Memo.{lent}
use Rattle.read_records.proofs.PartLemmas.{Gathered-all, Gathered-found, Gathered-none, Gathered-start}
use Rattle.read_records.specs.inner.Reached.{AddsParts}
use Rattle.read_records.proofs.recall.Recall.all_read.Goals.{in-Some+in_ok-add_parts-2, in_default}
use Rattle.read_records.proofs.recall.Recall.all_read.Goals as goal

pub loop-at-init : goal.loop-at-init
loop-at-init c =
    let reads = c.args.reads.now in
    let pairs = c.add_parts.new.answers.keys in
    let all = c.add_parts.new.all in
    Gathered-start c.args.self.now reads
    (subst (λ ps. AddsParts reads ps pairs [] all) c.new-answers.ensures.empty
    (subst (λ ks. AddsParts reads c.new-answers.result.keys pairs ks all) c.new-all.ensures
    c.in_ok-add_parts.ensures))

pub loop-at-preserved : goal.loop-at-preserved
loop-at-preserved c =
    let state = c.args.self.now in
    let reads = c.args.reads.now in
    let pairs = c.loop-at.answers.keys in
    let slice = c.as_slice-in-loop-at.result.now in
    let same = c.as_slice-in-loop-at.ensures.keys in
    let more : c.loop-at.at < length slice = omega (
      arith,
      c.loop-at-test.true,
      ap length c.as_slice.ensures.keys,
      ap length same,
    ) in
    elim c.match-find.branch [
      | in-Some+in_ok-add_parts-2 w ↦ rw (w.answers-is, w.all-is)
          (Gathered-found state reads pairs c.loop-at.all c.loop-at.at c.loop-at.invariant slice _ same more
          (lent w.in-Some.found) (sym w.in-Some.ensures) w.add_parts-in-Some.new.answers.keys
          w.add_parts-in-Some.new.all w.in_ok-add_parts-2.ensures)
      | in_default w ↦ rw (w.answers-is, w.all-is)
          (Gathered-none state reads pairs c.loop-at.all c.loop-at.at c.loop-at.invariant slice _ same more
          (sym w.in_default.ensures))
    ]

pub returns : goal.returns
returns c =
    Gathered-all c.args.self.now c.args.reads.now c.loop-at.answers.keys c.loop-at.all c.loop-at.at
    c.loop-at.invariant (omega (arith, c.loop-at-test.false, ap length c.as_slice.ensures.keys))
