use Rattle.graph_view.specs.Graph.{Graph, IsKnownTriple, triples_with}
use Rattle.graph_view.specs.Key.{look}
use Rattle.graph_view.specs.declared.key.Key.TheVariants.{Predicate}
use Rattle.graph_view.proofs.LookUpLemmas.{All-any_order, All-ordered, triples_in_any_order}
use Rattle.triple_store.proofs.store.StoreGraphView.triples_with_unsorted.Goals as goal

pub returns-clause-triples : goal.returns-clause-triples
returns-clause-triples g c =
    let inside = c.self.inside in
    rw (← c.self.view_is)
    (triples_in_any_order inside.pool.terms (look inside.indexes (Predicate c.args.p))
    c.in_ok-found.found.items c.in_ok-found.ensures)

pub returns-clause-known : goal.returns-clause-known
returns-clause-known g c =
    let inside = c.self.inside in
    let graph : Graph = record { terms = inside.pool.terms; triples = inside.indexes } in
    rw (← c.self.view_is)
    (All-any_order (IsKnownTriple graph.terms) c.in_ok-found.found.items (triples_with graph c.args.p)
    (triples_in_any_order inside.pool.terms (look inside.indexes (Predicate c.args.p))
    c.in_ok-found.found.items c.in_ok-found.ensures)
    (All-ordered graph c.self.invariant.0 (Predicate c.args.p)))
