use Rattle.read_records.proofs.ReadingLemmas.{AddsSome-one, StandsUnderEach-take_one}
use Rattle.read_records.proofs.ReadingLemmas.{StaysIn-then, StaysIn-added}
use Rattle.read_records.proofs.gathered.Gathered.add_all.Goals as goal

pub loop-key-preserved : goal.loop-key-preserved
loop-key-preserved c =
    let before = c.loop-key.invariant in
    let keys = c.args.keys.now in
    let at = c.loop-key.key-index in
    let inside = c.loop-key-test.true in
    record {
      stay = StaysIn-then before.stay (StaysIn-added c.in_ok-add.ensures);
      only = AddsSome-one keys at _ c.args.reader inside before.only c.in_ok-add.ensures;
      added = StandsUnderEach-take_one keys at _ c.args.reader inside before.added c.in_ok-add.ensures;
    }
