use Rattle.std.specs.List.{AllWithin}
use Rattle.graph_view.specs.Valid.{IsValidTriple}
use Rattle.due_view.proofs.valid.are_valid_triples.Given as goal

abbrev pub invariant-loop-t : goal.invariant-loop-t
invariant-loop-t l = AllWithin (IsValidTriple l.pool.terms) l.triples 0 l.t-index
