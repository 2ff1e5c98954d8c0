use Rattle.std.specs.Prelude.{length, map}
use Rattle.read_records.specs.declared.reader.Reader.TheVariants.{OfPair}
use Rattle.read_records.specs.Records.{SameRecords, change_of}
use Rattle.edit_engine.specs.inner.Put.{HaveRows, IsPut, no_reads, no_rows}
use Rattle.edit_engine.proofs.LeftLemmas.{IsLeft}
use Rattle.edit_engine.proofs.staging.stage_leaving.Given as goal

abbrev pub invariant-loop-pair : goal.invariant-loop-pair
invariant-loop-pair l = record {
  left : IsLeft (map (λ p. p.now) l.yielded) l.pair-iterator l.fn.leaving.keys (length l.pair-iterator);
  same : SameRecords l.fn.records l.records;
  gone : IsPut OfPair no_reads (map (λ p. p.now) l.yielded) (change_of l.fn.records) (change_of l.records);
  staged : HaveRows (λ p. p) no_rows l.pool.terms (map (λ p. p.now) l.yielded) l.fn.results l.results;
}
