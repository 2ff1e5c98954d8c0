use Rattle.std.proofs.Common.{◌≡◌, ◌-◌, length}
use Rattle.shx_term.specs.Pool.{Pooled}
use Rattle.ttl_read.specs.Documents.{setting}
use Rattle.ttl_read.specs.inner.Reads.{Stands}
use Rattle.ttl_read.proofs.DocumentLemmas.{Leading}
use Rattle.ttl_read.proofs.statements.statements.Given as goal

abbrev pub invariant-loop-reader : goal.invariant-loop-reader
invariant-loop-reader l = record {
  limit : l.pool.limit ≡ l.fn.pool.limit;
  stands : Stands l.text l.reader.tokens;
  leading : (before : Pooled)
      → Leading (setting l.text l.limits before) l.fn.reader l.fn.pool l.reader l.pool;
}

abbrev pub decreases-loop-reader : goal.decreases-loop-reader
decreases-loop-reader l = length l.text - l.reader.tokens.place
