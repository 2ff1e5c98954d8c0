use Rattle.std.specs.Prelude.{not, All}
use Rattle.std.proofs.lemmas.List.Kept.{IsStrictlySortedBy-filter}
use Rattle.shx_term.specs.TripleOrder.{triple_cmp}
use Rattle.graph_view.specs.declared.key.Key.{Key}
use Rattle.graph_view.specs.Graph.{IsKnownTriple}
use Rattle.graph_view.specs.Patched.{patched}
use Rattle.graph_view.proofs.LookUpLemmas.{IfOk-gives, IfOk-of, sorted-ordered, All-ordered}
use Rattle.triple_store.proofs.OverlayLemmas.{is_gone, triples-overlay}
use Rattle.triple_store.proofs.overlay.OverlayGraphView.triples_with.Goals as goal

pub merged-requires : goal.merged-requires
merged-requires g c =
    let view = c.args.self.now in
    let graph = g.V.GraphView.graph view.base.now in
    record {
      sorted = rw (c.pool.ensures.terms, c.leave_out.ensures, c.in_ok-found.ensures.triples)
          (IsStrictlySortedBy-filter (triple_cmp graph.terms) (λ t. not (is_gone view.removed t)) _
          (sorted-ordered graph (Key.Predicate c.args.p)));
    }

pub returns-clause-triples : goal.returns-clause-triples
returns-clause-triples g c =
    let view = c.args.self.now in
    let base = g.V.GraphView.graph view.base.now in
    IfOk-gives c.merged.result (λ found. found.items) c.merged.ensures
    (rw (c.pool.ensures.terms, c.leave_out.ensures, c.in_ok-found.ensures.triples)
    (triples-overlay base view.added view.removed (Key.Predicate c.args.p) c.in_ok-new.new.items
    c.in_ok-new.ensures))

pub returns-clause-known : goal.returns-clause-known
returns-clause-known g c =
    let view = c.args.self.now in
    let graph = patched (g.V.GraphView.graph view.base.now) view.added view.removed in
    IfOk-of c.merged.result (λ found. found.items) (All (IsKnownTriple graph.terms))
    (returns-clause-triples g c) (All-ordered graph view.known (Key.Predicate c.args.p))
