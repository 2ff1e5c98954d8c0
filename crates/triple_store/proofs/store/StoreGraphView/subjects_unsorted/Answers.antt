use Rattle.std.specs.Prelude.{◌<◌, length, map}
use Rattle.graph_view.specs.Graph.{Graph, subjects_of}
use Rattle.graph_view.specs.Key.{look}
use Rattle.graph_view.specs.declared.key.Key.TheVariants.{In}
use Rattle.graph_view.proofs.LookUpLemmas.{All-any_order, HasTerms-subjects_of, in_any_order}
use Rattle.triple_store.proofs.store.StoreGraphView.subjects_unsorted.Goals as goal

pub returns-clause-subjects : goal.returns-clause-subjects
returns-clause-subjects g c =
    let inside = c.self.inside in
    rw (← c.self.view_is)
    (in_any_order inside.pool.terms (map (λ t. t.s) (look inside.indexes (In c.args.p c.args.o)))
    c.in_ok-found.found.items c.in_ok-found.ensures)

pub returns-clause-known : goal.returns-clause-known
returns-clause-known g c =
    let inside = c.self.inside in
    let graph : Graph = record { terms = inside.pool.terms; triples = inside.indexes } in
    rw (← c.self.view_is)
    (All-any_order (λ id. id < length graph.terms) c.in_ok-found.found.items
    (subjects_of graph c.args.p c.args.o)
    (in_any_order inside.pool.terms (map (λ t. t.s) (look inside.indexes (In c.args.p c.args.o)))
    c.in_ok-found.found.items c.in_ok-found.ensures)
    (HasTerms-subjects_of graph c.self.invariant.0 c.args.p c.args.o))
