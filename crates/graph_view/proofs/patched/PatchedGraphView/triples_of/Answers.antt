use Rattle.std.specs.Prelude.{All}
use Rattle.graph_view.specs.declared.key.Key.{Key}
use Rattle.graph_view.specs.Graph.{IsKnownTriple}
use Rattle.graph_view.specs.Patched.{patched}
use Rattle.graph_view.proofs.LookUpLemmas.{IfOk-gives, IfOk-of, sorted-ordered, All-ordered}
use Rattle.graph_view.proofs.PatchedLemmas.{triples-patched}
use Rattle.graph_view.proofs.patched.PatchedGraphView.triples_of.Goals as goal

pub changed-requires : goal.changed-requires
changed-requires g c =
    let sorted = sorted-ordered (g.V.GraphView.graph c.args.self.now.base.now) (Key.Subject c.args.s) in
    record { sorted = rw (c.pool.ensures.terms, c.in_ok-found.ensures.triples) sorted }

pub returns-clause-triples : goal.returns-clause-triples
returns-clause-triples g c =
    let view = c.args.self.now in
    let base = g.V.GraphView.graph view.base.now in
    IfOk-gives c.changed.result (λ found. found.items) c.changed.ensures (rw (
      c.pool.ensures.terms,
      c.deref.ensures.value,
      c.in_ok-found.ensures.triples,
      c.in_ok-gone.ensures,
      c.in_ok-new.ensures,
    )
    (triples-patched base view.added.now view.removed.now (Key.Subject c.args.s)))

pub returns-clause-known : goal.returns-clause-known
returns-clause-known g c =
    let view = c.args.self.now in
    let graph = patched (g.V.GraphView.graph view.base.now) view.added.now view.removed.now in
    IfOk-of c.changed.result (λ found. found.items) (All (IsKnownTriple graph.terms))
    (returns-clause-triples g c) (All-ordered graph view.known (Key.Subject c.args.s))
