use Rattle.std.specs.Prelude.{length}
use Rattle.shape_order.specs.Refs.{refs_of}
use Rattle.shape_order.proofs.NumberingLemmas.{NumbersAll}
use Rattle.shape_order.proofs.numbering.number_all.Given as goal

abbrev pub invariant-loop-root : goal.invariant-loop-root
invariant-loop-root l = NumbersAll (refs_of l.refs) (length l.refs) l.root l.order l.seen
