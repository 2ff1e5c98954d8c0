use Rattle.std.specs.Prelude.{not}
use Rattle.std.proofs.lemmas.List.Kept.{IsStrictlySortedBy-filter}
use Rattle.shx_term.specs.IdOrder.{id_cmp}
use Rattle.graph_view.specs.Graph.{HasTerms}
use Rattle.graph_view.specs.Patched.{patched}
use Rattle.graph_view.proofs.LookUpLemmas.{IfOk-gives, IfOk-of, sorted-objects_of, HasTerms-objects_of}
use Rattle.triple_store.proofs.OverlayLemmas.{is_gone, objects_of-overlay}
use Rattle.triple_store.proofs.overlay.OverlayGraphView.objects.Goals as goal

pub merged-requires : goal.merged-requires
merged-requires g c =
    let view = c.args.self.now in
    let graph = g.V.GraphView.graph view.base.now in
    record {
      sorted = rw (c.pool.ensures.terms, c.leave_out_objects.ensures, c.in_ok-found.ensures.objects)
          (IsStrictlySortedBy-filter (id_cmp graph.terms)
          (λ o. not (is_gone view.removed (record { s = c.args.s; p = c.args.p; o = o }))) _
          (sorted-objects_of graph c.args.s c.args.p));
    }

pub returns-clause-objects : goal.returns-clause-objects
returns-clause-objects g c =
    let view = c.args.self.now in
    let base = g.V.GraphView.graph view.base.now in
    IfOk-gives c.merged.result (λ found. found.items) c.merged.ensures
    (rw (c.pool.ensures.terms, c.leave_out_objects.ensures, c.in_ok-found.ensures.objects)
    (objects_of-overlay base view.added view.removed c.args.s c.args.p c.in_ok-new.new.items
    c.in_ok-new.ensures))

pub returns-clause-known : goal.returns-clause-known
returns-clause-known g c =
    let view = c.args.self.now in
    let graph = patched (g.V.GraphView.graph view.base.now) view.added view.removed in
    IfOk-of c.merged.result (λ found. found.items) (HasTerms graph)
    (returns-clause-objects g c) (HasTerms-objects_of graph view.known c.args.s c.args.p)
