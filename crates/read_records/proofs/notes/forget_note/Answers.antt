use Rattle.read_records.proofs.StoreLemmas.{HaveReadBut-kept, HaveReadBut-left, HaveReadBut-staged}
use Rattle.read_records.proofs.StoreLemmas.{KeepsUnder-left}
use Rattle.read_records.proofs.notes.forget_note.Goals.{then-not-has_key+then-not-has_key-2, else-not-has_key}
use Rattle.read_records.proofs.notes.forget_note.Goals.{
  else-not-has_key-via-then-not-has_key+else-not-has_key-2,
}
use Rattle.read_records.proofs.notes.forget_note.Goals.{else-not-has_key-via-else-not-has_key}
use Rattle.std.proofs.Common.{refl}
use Rattle.read_records.proofs.notes.forget_note.Goals as goal

pub loop-key-preserved : goal.loop-key-preserved
loop-key-preserved g c =
    let keys = c.keys-key-items.result.now in
    let at = c.loop-key.key-index in
    let inside = c.loop-key-test.true in
    let before = c.loop-key.invariant in
    elim c.if-not-has_key.branch [
      | then-not-has_key+then-not-has_key-2 w ↦ rw w.readings-is (record {
        kept = KeepsUnder-left _ c.args.reader c.get-kept.ensures.value w.remove.ensures
            w.if-not-has_key.ensures.1 before.kept;
        staged = KeepsUnder-left _ c.args.reader c.get-staged.ensures.value w.remove.ensures
            w.if-not-has_key-2.ensures.1 before.staged;
        read = record {
          keeps = λ but. HaveReadBut-left c.args.reader keys at _ inside w.remove.ensures
              (before.read.keeps but);
        };
      })
      | else-not-has_key w ↦ rw w.readings-is (record {
        kept = before.kept;
        staged = before.staged;
        read = record {
          keeps = λ but. elim w.else-not-has_key.branch [
            | else-not-has_key-via-then-not-has_key+else-not-has_key-2 v ↦ HaveReadBut-staged c.args.reader
                keys at _ inside c.get-staged.ensures.value (v.if-not-has_key-2.ensures.0 refl)
                (before.read.keeps but)
            | else-not-has_key-via-else-not-has_key v ↦ HaveReadBut-kept c.args.reader keys at _ inside
                c.get-kept.ensures.value (v.if-not-has_key.ensures.0 refl) (before.read.keeps but)
          ];
        };
      })
    ]
