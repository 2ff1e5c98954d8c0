use Rattle.graph_view.specs.Graph.{Graph}
use Rattle.graph_view.specs.declared.key.Key.{Key}
use Rattle.graph_view.proofs.LookUpLemmas.{All-ordered}
use Rattle.graph_view.proofs.lent.LentGraphView.triples_of.Goals as goal

pub returns-clause-known : goal.returns-clause-known
returns-clause-known g c =
    let view = c.args.self.now in
    let graph : Graph = record { terms = view.pool.now.terms; triples = view.triples.now } in
    rw (c.triples_in_order.ensures, c.in_ok-found.ensures)
    (All-ordered graph view.known (Key.Subject c.args.s))
