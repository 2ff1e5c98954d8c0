use Rattle.std.proofs.Common.{arith}
use Rattle.shape_decl.specs.inner.ToldForm.{told_form}
use Rattle.shape_decl.proofs.VisitLemmas.{no_level, node_meets, too_many}
use Rattle.shape_decl.proofs.path_nodes.meet.Goals as goal
use Rattle.shape_decl.proofs.path_nodes.meet.Goals.{then-left-eq0-via-then-left-eq0}
use Rattle.shape_decl.proofs.path_nodes.meet.Goals.{then-left-eq0-via-else-left-eq0+then-parts-limit}

pub returns-then-left-eq0-clause-fault : goal.returns-then-left-eq0-clause-fault
returns-then-left-eq0-clause-fault g c =
    let graph = g.V.GraphView.graph c.args.graph.now in
    elim c.then-left-eq0.branch [
      | then-left-eq0-via-then-left-eq0 w ↦ λ other.
          no_level graph c.args.limit c.args.parts.now c.args.left c.args.node w.if-left-eq0.true
      | then-left-eq0-via-else-left-eq0+then-parts-limit w ↦ λ other.
          too_many graph c.args.limit c.args.parts.now c.args.left c.args.node w.if-parts-limit.true
    ]

pub returns-clause-met : goal.returns-clause-met
returns-clause-met g c =
    let graph = g.V.GraphView.graph c.args.graph.now in
    node_meets graph c.args.limit c.args.parts.now c.args.left c.args.node
    (told_form c.in_ok-read_form.field-0) (omega arith) (omega arith) c.in_ok-read_form.ensures.form
