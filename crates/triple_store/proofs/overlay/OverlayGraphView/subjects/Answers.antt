use Rattle.std.specs.Prelude.{not}
use Rattle.std.proofs.lemmas.List.Kept.{IsStrictlySortedBy-filter}
use Rattle.shx_term.specs.IdOrder.{id_cmp}
use Rattle.graph_view.specs.Graph.{HasTerms}
use Rattle.graph_view.specs.Patched.{patched}
use Rattle.graph_view.proofs.LookUpLemmas.{IfOk-gives, IfOk-of, sorted-subjects_of, HasTerms-subjects_of}
use Rattle.triple_store.proofs.OverlayLemmas.{is_gone, subjects_of-overlay}
use Rattle.triple_store.proofs.overlay.OverlayGraphView.subjects.Goals as goal

pub merged-requires : goal.merged-requires
merged-requires g c =
    let view = c.args.self.now in
    let graph = g.V.GraphView.graph view.base.now in
    record {
      sorted = rw (c.pool.ensures.terms, c.leave_out_subjects.ensures, c.in_ok-found.ensures.subjects)
          (IsStrictlySortedBy-filter (id_cmp graph.terms)
          (λ s. not (is_gone view.removed (record { s = s; p = c.args.p; o = c.args.o }))) _
          (sorted-subjects_of graph c.args.p c.args.o));
    }

pub returns-clause-subjects : goal.returns-clause-subjects
returns-clause-subjects g c =
    let view = c.args.self.now in
    let base = g.V.GraphView.graph view.base.now in
    IfOk-gives c.merged.result (λ found. found.items) c.merged.ensures
    (rw (c.pool.ensures.terms, c.leave_out_subjects.ensures, c.in_ok-found.ensures.subjects)
    (subjects_of-overlay base view.added view.removed c.args.p c.args.o c.in_ok-new.new.items
    c.in_ok-new.ensures))

pub returns-clause-known : goal.returns-clause-known
returns-clause-known g c =
    let view = c.args.self.now in
    let graph = patched (g.V.GraphView.graph view.base.now) view.added view.removed in
    IfOk-of c.merged.result (λ found. found.items) (HasTerms graph)
    (returns-clause-subjects g c) (HasTerms-subjects_of graph view.known c.args.p c.args.o)
