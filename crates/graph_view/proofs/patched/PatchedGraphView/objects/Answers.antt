use Rattle.graph_view.specs.Graph.{HasTerms}
use Rattle.graph_view.specs.Patched.{patched}
use Rattle.graph_view.proofs.LookUpLemmas.{IfOk-gives, IfOk-of, sorted-objects_of, HasTerms-objects_of}
use Rattle.graph_view.proofs.PatchedLemmas.{objects_of-patched}
use Rattle.graph_view.proofs.patched.PatchedGraphView.objects.Goals as goal

pub changed-requires : goal.changed-requires
changed-requires g c =
    let sorted = sorted-objects_of (g.V.GraphView.graph c.args.self.now.base.now) c.args.s c.args.p in
    record { sorted = rw (c.pool.ensures.terms, c.in_ok-found.ensures.objects) sorted }

pub returns-clause-objects : goal.returns-clause-objects
returns-clause-objects g c =
    let view = c.args.self.now in
    let base = g.V.GraphView.graph view.base.now in
    IfOk-gives c.changed.result (λ found. found.items) c.changed.ensures (rw (
      c.pool.ensures.terms,
      c.deref.ensures.value,
      c.in_ok-found.ensures.objects,
      c.in_ok-gone.ensures,
      c.in_ok-new.ensures,
    )
    (objects_of-patched base view.added.now view.removed.now c.args.s c.args.p))

pub returns-clause-known : goal.returns-clause-known
returns-clause-known g c =
    let view = c.args.self.now in
    let graph = patched (g.V.GraphView.graph view.base.now) view.added.now view.removed.now in
    IfOk-of c.changed.result (λ found. found.items) (HasTerms graph)
    (returns-clause-objects g c) (HasTerms-objects_of graph view.known c.args.s c.args.p)
