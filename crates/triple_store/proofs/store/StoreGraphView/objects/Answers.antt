use Rattle.std.specs.Prelude.{◌≡◌, map}
use Rattle.std.proofs.Common.{◌∙◌, sym}
use Rattle.shx_term.proofs.IdOrderLemmas.{in_term_order_same}
use Rattle.graph_view.specs.Key.{look}
use Rattle.graph_view.specs.declared.key.Key.TheVariants.{Out}
use Rattle.graph_view.specs.Graph.{Graph, objects_of}
use Rattle.graph_view.proofs.LookUpLemmas.{HasTerms-objects_of}
use Rattle.triple_store.proofs.store.StoreGraphView.objects.Goals as goal

pub returns-clause-objects : goal.returns-clause-objects
returns-clause-objects g c =
    let wanted = map (λ t. t.o) (look c.self.inside.indexes (Out c.args.s c.args.p)) in
    rw (← c.self.view_is)
    (c.in_order.ensures
    ∙ sym (in_term_order_same c.self.inside.pool.terms wanted c.in_ok-found.found.items
    c.in_ok-found.ensures.each))

pub returns-clause-known : goal.returns-clause-known
returns-clause-known g c =
    let inside = c.self.inside in
    let graph : Graph = record { terms = inside.pool.terms; triples = inside.indexes } in
    let due : c.in_order.result.items ≡ objects_of graph c.args.s c.args.p =
    c.in_order.ensures
    ∙ sym (in_term_order_same inside.pool.terms (map (λ t. t.o) (look inside.indexes (Out c.args.s c.args.p)))
    c.in_ok-found.found.items c.in_ok-found.ensures.each) in
    rw (← c.self.view_is) (rw due (HasTerms-objects_of graph c.self.invariant.0 c.args.s c.args.p))
