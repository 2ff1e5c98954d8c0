use Rattle.std.specs.Prelude.{Contains}
use Rattle.std.specs.Bool.{MatchBool}
use Rattle.std.specs.List.{AllWithin}
use Rattle.graph_rows.proofs.tests.steps.are_held.Given as goal

abbrev pub invariant-loop-t : goal.invariant-loop-t
invariant-loop-t g l =
    let triples = (g.V.GraphView.graph l.view).triples in
    AllWithin (λ t. MatchBool l.held (Contains triples t) (Contains triples t → ⊥)) l.triples 0 l.t-index
