use Rattle.std.specs.Prelude.{◌≡◌}
use Rattle.std.proofs.Common.{◌∙◌, sym}
use Rattle.graph_view.proofs.SameGraphLemmas.{triples_same}
use Rattle.graph_view.specs.Key.{look}
use Rattle.graph_view.specs.declared.key.Key.TheVariants.{Subject}
use Rattle.graph_view.specs.Graph.{Graph, triples_of}
use Rattle.graph_view.proofs.LookUpLemmas.{All-ordered}
use Rattle.triple_store.proofs.store.StoreGraphView.triples_of.Goals as goal

pub returns-clause-triples : goal.returns-clause-triples
returns-clause-triples g c =
    let wanted = look c.self.inside.indexes (Subject c.args.s) in
    rw (← c.self.view_is)
    (c.triples_in_order.ensures
    ∙ sym (triples_same c.self.inside.pool.terms wanted c.in_ok-found.found.items c.in_ok-found.ensures))

pub returns-clause-known : goal.returns-clause-known
returns-clause-known g c =
    let inside = c.self.inside in
    let graph : Graph = record { terms = inside.pool.terms; triples = inside.indexes } in
    let due : c.triples_in_order.result.items ≡ triples_of graph c.args.s =
    c.triples_in_order.ensures
    ∙ sym (triples_same inside.pool.terms (look inside.indexes (Subject c.args.s)) c.in_ok-found.found.items
    c.in_ok-found.ensures) in
    rw (← c.self.view_is) (rw due (All-ordered graph c.self.invariant.0 (Subject c.args.s)))
