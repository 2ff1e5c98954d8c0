use Rattle.graph_view.specs.Graph.{Graph}
use Rattle.graph_view.proofs.LookUpLemmas.{HasTerms-subjects_of}
use Rattle.graph_view.proofs.lent.LentGraphView.subjects.Goals as goal

pub returns-clause-known : goal.returns-clause-known
returns-clause-known g c =
    let view = c.args.self.now in
    let graph : Graph = record { terms = view.pool.now.terms; triples = view.triples.now } in
    rw (c.in_order.ensures, c.in_ok-found.ensures) (HasTerms-subjects_of graph view.known c.args.p c.args.o)
