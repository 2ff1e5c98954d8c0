use Rattle.graph_view.specs.Graph.{HasTerms}
use Rattle.graph_view.specs.Patched.{patched}
use Rattle.graph_view.proofs.LookUpLemmas.{IfOk-gives, IfOk-of, sorted-subjects_of, HasTerms-subjects_of}
use Rattle.graph_view.proofs.PatchedLemmas.{subjects_of-patched}
use Rattle.graph_view.proofs.patched.PatchedGraphView.subjects.Goals as goal

pub changed-requires : goal.changed-requires
changed-requires g c =
    let sorted = sorted-subjects_of (g.V.GraphView.graph c.args.self.now.base.now) c.args.p c.args.o in
    record { sorted = rw (c.pool.ensures.terms, c.in_ok-found.ensures.subjects) sorted }

pub returns-clause-subjects : goal.returns-clause-subjects
returns-clause-subjects g c =
    let view = c.args.self.now in
    let base = g.V.GraphView.graph view.base.now in
    IfOk-gives c.changed.result (λ found. found.items) c.changed.ensures (rw (
      c.pool.ensures.terms,
      c.deref.ensures.value,
      c.in_ok-found.ensures.subjects,
      c.in_ok-gone.ensures,
      c.in_ok-new.ensures,
    )
    (subjects_of-patched base view.added.now view.removed.now c.args.p c.args.o))

pub returns-clause-known : goal.returns-clause-known
returns-clause-known g c =
    let view = c.args.self.now in
    let graph = patched (g.V.GraphView.graph view.base.now) view.added.now view.removed.now in
    IfOk-of c.changed.result (λ found. found.items) (HasTerms graph)
    (returns-clause-subjects g c) (HasTerms-subjects_of graph view.known c.args.p c.args.o)
