use Rattle.std.specs.Prelude.{◌≡◌, map}
use Rattle.std.proofs.Common.{◌∙◌, sym}
use Rattle.shx_term.proofs.IdOrderLemmas.{in_term_order_same}
use Rattle.graph_view.specs.Key.{look}
use Rattle.graph_view.specs.declared.key.Key.TheVariants.{In}
use Rattle.graph_view.specs.Graph.{Graph, subjects_of}
use Rattle.graph_view.proofs.LookUpLemmas.{HasTerms-subjects_of}
use Rattle.triple_store.proofs.store.StoreGraphView.subjects.Goals as goal

pub returns-clause-subjects : goal.returns-clause-subjects
returns-clause-subjects g c =
    let wanted = map (λ t. t.s) (look c.self.inside.indexes (In c.args.p c.args.o)) in
    rw (← c.self.view_is)
    (c.in_order.ensures
    ∙ sym (in_term_order_same c.self.inside.pool.terms wanted c.in_ok-found.found.items
    c.in_ok-found.ensures.each))

pub returns-clause-known : goal.returns-clause-known
returns-clause-known g c =
    let inside = c.self.inside in
    let graph : Graph = record { terms = inside.pool.terms; triples = inside.indexes } in
    let due : c.in_order.result.items ≡ subjects_of graph c.args.p c.args.o =
    c.in_order.ensures
    ∙ sym (in_term_order_same inside.pool.terms (map (λ t. t.s) (look inside.indexes (In c.args.p c.args.o)))
    c.in_ok-found.found.items c.in_ok-found.ensures.each) in
    rw (← c.self.view_is) (rw due (HasTerms-subjects_of graph c.self.invariant.0 c.args.p c.args.o))
