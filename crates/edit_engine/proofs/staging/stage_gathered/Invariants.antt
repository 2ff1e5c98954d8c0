use Rattle.std.specs.Vec.Iter.{into_iter_items, into_iter_len}
use Rattle.read_records.specs.Records.{SameRecords, change_of}
use Rattle.edit_engine.specs.inner.Put.{IsPut, entry_change, entry_reader}
use Rattle.edit_engine.proofs.LeftLemmas.{IsLeft}
use Rattle.edit_engine.proofs.staging.stage_gathered.Given as goal

abbrev pub invariant-loop-reader : goal.invariant-loop-reader
invariant-loop-reader l = record {
  left : IsLeft l.yielded (into_iter_items l.reader-iterator) l.fn.all.items
      (into_iter_len l.reader-iterator);
  same : SameRecords l.fn.records l.records;
  put : IsPut entry_reader entry_change l.yielded (change_of l.fn.records) (change_of l.records);
}
