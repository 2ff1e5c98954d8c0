use Rattle.read_records.proofs.GatheredLemmas.{AreGathered, AreOfEntries}
use Rattle.read_records.proofs.notes.gathered_from.Given as goal

abbrev pub invariant-loop-reader : goal.invariant-loop-reader
invariant-loop-reader g l = record {
  gathered : AreGathered l.fn.notes.entries l.reader-iterator l.gathered;
  of_entries : AreOfEntries l.fn.notes.entries l.reader-iterator l.gathered;
}
