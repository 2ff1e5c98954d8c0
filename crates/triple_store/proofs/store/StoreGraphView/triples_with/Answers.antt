use Rattle.std.specs.Prelude.{◌≡◌}
use Rattle.std.proofs.Common.{◌∙◌, sym}
use Rattle.graph_view.proofs.SameGraphLemmas.{triples_same}
use Rattle.graph_view.specs.Key.{look}
use Rattle.graph_view.specs.declared.key.Key.TheVariants.{Predicate}
use Rattle.graph_view.specs.Graph.{Graph, triples_with}
use Rattle.graph_view.proofs.LookUpLemmas.{All-ordered}
use Rattle.triple_store.proofs.store.StoreGraphView.triples_with.Goals as goal

pub returns-clause-triples : goal.returns-clause-triples
returns-clause-triples g c =
    let wanted = look c.self.inside.indexes (Predicate c.args.p) in
    rw (← c.self.view_is)
    (c.triples_in_order.ensures
    ∙ sym (triples_same c.self.inside.pool.terms wanted c.in_ok-found.found.items c.in_ok-found.ensures))

pub returns-clause-known : goal.returns-clause-known
returns-clause-known g c =
    let inside = c.self.inside in
    let graph : Graph = record { terms = inside.pool.terms; triples = inside.indexes } in
    let due : c.triples_in_order.result.items ≡ triples_with graph c.args.p =
    c.triples_in_order.ensures
    ∙ sym (triples_same inside.pool.terms (look inside.indexes (Predicate c.args.p)) c.in_ok-found.found.items
    c.in_ok-found.ensures) in
    rw (← c.self.view_is) (rw due (All-ordered graph c.self.invariant.0 (Predicate c.args.p)))
