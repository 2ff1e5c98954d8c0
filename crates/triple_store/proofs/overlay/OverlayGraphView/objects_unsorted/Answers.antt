use Rattle.shx_term.specs.Members.{SameMembers}
use Rattle.shx_term.proofs.SetLemmas.{SameMembers-itself}
use Rattle.graph_view.specs.Graph.{objects_of}
use Rattle.graph_view.specs.Patched.{patched}
use Rattle.graph_view.proofs.LookUpLemmas.{IfOk-of}
use Rattle.triple_store.proofs.overlay.OverlayGraphView.objects_unsorted.Goals as goal

pub returns-clause-objects : goal.returns-clause-objects
returns-clause-objects g c =
    let view = c.args.self.now in
    let graph = patched (g.V.GraphView.graph view.base.now) view.added view.removed in
    let due = objects_of graph c.args.s c.args.p in
    IfOk-of c.objects.result (λ found. found.items) (λ ids. SameMembers ids due) c.objects.ensures.objects
    (SameMembers-itself due)
