use Rattle.std.specs.Prelude.{◌<◌, length, map}
use Rattle.graph_view.specs.Graph.{Graph, objects_of}
use Rattle.graph_view.specs.Key.{look}
use Rattle.graph_view.specs.declared.key.Key.TheVariants.{Out}
use Rattle.graph_view.proofs.LookUpLemmas.{All-any_order, HasTerms-objects_of, in_any_order}
use Rattle.triple_store.proofs.store.StoreGraphView.objects_unsorted.Goals as goal

pub returns-clause-objects : goal.returns-clause-objects
returns-clause-objects g c =
    let inside = c.self.inside in
    rw (← c.self.view_is)
    (in_any_order inside.pool.terms (map (λ t. t.o) (look inside.indexes (Out c.args.s c.args.p)))
    c.in_ok-found.found.items c.in_ok-found.ensures)

pub returns-clause-known : goal.returns-clause-known
returns-clause-known g c =
    let inside = c.self.inside in
    let graph : Graph = record { terms = inside.pool.terms; triples = inside.indexes } in
    rw (← c.self.view_is)
    (All-any_order (λ id. id < length graph.terms) c.in_ok-found.found.items
    (objects_of graph c.args.s c.args.p)
    (in_any_order inside.pool.terms (map (λ t. t.o) (look inside.indexes (Out c.args.s c.args.p)))
    c.in_ok-found.found.items c.in_ok-found.ensures)
    (HasTerms-objects_of graph c.self.invariant.0 c.args.s c.args.p))
