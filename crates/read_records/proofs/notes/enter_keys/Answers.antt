use Rattle.std.proofs.Common.{refl}
use Rattle.read_records.proofs.ReadingLemmas.{AddsSome-one, StandsUnderEach-take_held}
use Rattle.read_records.proofs.ReadingLemmas.{StandsUnderEach-take_one, StaysIn-added, StaysIn-then}
use Rattle.read_records.proofs.notes.enter_keys.Goals.{then-not-has_key+in_ok-insert, else-not-has_key}
use Rattle.read_records.proofs.notes.enter_keys.Goals as goal

pub loop-key-preserved : goal.loop-key-preserved
loop-key-preserved g c =
    let keys = c.args.keys.now in
    let at = c.loop-key.key-index in
    let before = c.loop-key.invariant in
    elim c.if-not-has_key.branch [
      | then-not-has_key+in_ok-insert w ↦ rw w.readings-is (record {
        stay = StaysIn-then before.stay (StaysIn-added w.in_ok-insert.ensures.added);
        only = AddsSome-one keys at _ c.args.reader c.loop-key-test.true before.only
            w.in_ok-insert.ensures.added;
        added = StandsUnderEach-take_one keys at _ c.args.reader c.loop-key-test.true before.added
            w.in_ok-insert.ensures.added;
      })
      | else-not-has_key w ↦ rw w.readings-is (record {
        stay = before.stay;
        only = before.only;
        added = StandsUnderEach-take_held keys at _ c.args.reader c.loop-key-test.true before.added
            (before.stay.each _ (c.requires _ (w.if-not-has_key.ensures.0 refl)));
      })
    ]
