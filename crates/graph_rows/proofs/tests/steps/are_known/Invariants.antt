use Rattle.std.specs.List.{AllWithin}
use Rattle.graph_view.specs.Graph.{IsKnownTriple}
use Rattle.graph_rows.proofs.tests.steps.are_known.Given as goal

abbrev pub invariant-loop-t : goal.invariant-loop-t
invariant-loop-t g l = AllWithin (IsKnownTriple (g.V.GraphView.graph l.view).terms) l.triples 0 l.t-index
