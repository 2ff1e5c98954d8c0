use Rattle.std.specs.Prelude.{◌<◌}
use Rattle.std.specs.List.{AllWithin}
use Rattle.graph_rows.proofs.tests.cuts.are_below.Given as goal

abbrev pub invariant-loop-t : goal.invariant-loop-t
invariant-loop-t l =
    AllWithin (λ t. (t.s < l.len) × (t.p < l.len) × (t.o < l.len)) l.triples 0 l.t-index
