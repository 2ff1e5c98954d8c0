use Rattle.std.specs.Prelude.{drop}
use Rattle.read_records.proofs.StoreLemmas.{IsLookedAt, KeepsUnder}
use Rattle.read_records.proofs.notes.forget_note.Given as goal

abbrev pub invariant-loop-key : goal.invariant-loop-key
invariant-loop-key g l = record {
  kept : KeepsUnder l.fn.kept.entries l.fn.readings l.readings;
  staged : KeepsUnder l.fn.staged.entries l.fn.readings l.readings;
  read : IsLookedAt l.fn.kept.entries l.fn.staged.entries l.fn.readings l.readings l.reader l.key-items
      (drop l.key-index l.key-items);
}
