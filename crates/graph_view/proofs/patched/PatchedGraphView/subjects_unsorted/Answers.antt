use Rattle.shx_term.specs.Members.{SameMembers}
use Rattle.shx_term.proofs.SetLemmas.{SameMembers-itself}
use Rattle.graph_view.specs.Graph.{subjects_of}
use Rattle.graph_view.specs.Patched.{patched}
use Rattle.graph_view.proofs.LookUpLemmas.{IfOk-of}
use Rattle.graph_view.proofs.patched.PatchedGraphView.subjects_unsorted.Goals as goal

pub returns-clause-subjects : goal.returns-clause-subjects
returns-clause-subjects g c =
    let view = c.args.self.now in
    let graph = patched (g.V.GraphView.graph view.base.now) view.added.now view.removed.now in
    let due = subjects_of graph c.args.p c.args.o in
    IfOk-of c.subjects.result (λ found. found.items) (λ ids. SameMembers ids due) c.subjects.ensures.subjects
    (SameMembers-itself due)
