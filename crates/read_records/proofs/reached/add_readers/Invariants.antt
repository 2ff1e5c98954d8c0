use Rattle.std.specs.Prelude.{Contains, take}
use Rattle.read_records.specs.declared.reader.Reader.TheVariants.{OfPair}
use Rattle.read_records.specs.inner.Reached.{Gains}
use Rattle.read_records.proofs.reached.add_readers.Given as goal

abbrev pub invariant-loop-reader : goal.invariant-loop-reader
invariant-loop-reader l =
    Gains l.fn.reached.keys l.reached.keys (λ p. Contains (take l.reader-index l.reader-items) (OfPair p))
