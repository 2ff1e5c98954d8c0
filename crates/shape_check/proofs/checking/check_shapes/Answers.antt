use Rattle.std.specs.Prelude.{map}
use Rattle.std.proofs.Common.{ap, sym, ◌∙◌}
use Rattle.shape_decl.specs.Declarations.{declarations, told_decl}
use Rattle.shape_decl.proofs.NamedLemmas.{declared_nodes}
use Rattle.shape_check.specs.Faults.{first}
use Rattle.shape_check.proofs.FaultLemmas.{all_declared, graph_faults_are}
use Rattle.shape_check.proofs.checking.check_shapes.Goals as goal

pub returns-in-Some-clause-refused : goal.returns-in-Some-clause-refused
returns-in-Some-clause-refused g c =
    let graph = g.V.GraphView.graph c.args.graph.now in
    let limits = c.args.limits.now in
    ap first (c.in-Some.ensures graph.terms (declarations limits graph)
    (declared_nodes limits graph ∙ sym (c.deref.ensures.value ∙ c.in_ok-nodes.ensures)))

pub returns-in-Ok-clause-declared : goal.returns-in-Ok-clause-declared
returns-in-Ok-clause-declared g c =
    let graph = g.V.GraphView.graph c.args.graph.now in
    all_declared c.args.limits.now graph c.deref-2.result.now c.in_ok-nodes.nodes.items
    (map told_decl c.in_ok-decls.decls.items) c.deref-2.ensures.value c.in_ok-nodes.ensures
    c.in_ok-decls.ensures

pub returns-in-Ok-clause-accepted : goal.returns-in-Ok-clause-accepted
returns-in-Ok-clause-accepted g c =
    let graph = g.V.GraphView.graph c.args.graph.now in
    let limits = c.args.limits.now in
    let all =
    all_declared limits graph c.deref-2.result.now c.in_ok-nodes.nodes.items
    (map told_decl c.in_ok-decls.decls.items) c.deref-2.ensures.value c.in_ok-nodes.ensures
    c.in_ok-decls.ensures in
    graph_faults_are limits graph c.pool.result.now.terms (map told_decl c.deref-3.result.now)
    c.pool.ensures.terms (ap (map told_decl) c.deref-3.ensures.value ∙ all)
    ∙ c.in-Ok.ensures.accepted

pub returns-clause-refused : goal.returns-clause-refused
returns-clause-refused g c =
    let graph = g.V.GraphView.graph c.args.graph.now in
    let limits = c.args.limits.now in
    let all =
    all_declared limits graph c.deref-2.result.now c.in_ok-nodes.nodes.items
    (map told_decl c.in_ok-decls.decls.items) c.deref-2.ensures.value c.in_ok-nodes.ensures
    c.in_ok-decls.ensures in
    rw (graph_faults_are limits graph c.pool.result.now.terms (map told_decl c.deref-3.result.now)
    c.pool.ensures.terms (ap (map told_decl) c.deref-3.ensures.value ∙ all))
    c.in-Err.ensures.refused
