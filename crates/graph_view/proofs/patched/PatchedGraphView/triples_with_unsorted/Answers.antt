use Rattle.shx_term.specs.Members.{SameMembers}
use Rattle.shx_term.proofs.SetLemmas.{SameMembers-itself}
use Rattle.graph_view.specs.Graph.{triples_with}
use Rattle.graph_view.specs.Patched.{patched}
use Rattle.graph_view.proofs.LookUpLemmas.{IfOk-of}
use Rattle.graph_view.proofs.patched.PatchedGraphView.triples_with_unsorted.Goals as goal

pub returns-clause-triples : goal.returns-clause-triples
returns-clause-triples g c =
    let view = c.args.self.now in
    let graph = patched (g.V.GraphView.graph view.base.now) view.added.now view.removed.now in
    let due = triples_with graph c.args.p in
    IfOk-of c.triples_with.result (λ found. found.items) (λ ts. SameMembers ts due)
    c.triples_with.ensures.triples (SameMembers-itself due)
