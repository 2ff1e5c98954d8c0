use Rattle.std.proofs.Common.{◌≡◌, ◌-◌, map, ap}
use Rattle.std.proofs.lemmas.Result.{err_from_is_err_and}
use Rattle.path_eval.specs.Route.{route_of}
use Rattle.shape_decl.specs.PathReadings.{route_at}
use Rattle.shape_decl.specs.inner.ToldForm.{told_form}
use Rattle.shape_decl.proofs.RouteReadLemmas.{alternative_read, sequence_read}
use Rattle.shape_decl.proofs.VisitLemmas.{routes_more, row_fault, row_more}
use Rattle.shape_decl.proofs.path_nodes.+read.Goals as goal

pub read_node-returns-in-Sequence-clause-path : goal.read_node-returns-in-Sequence-clause-path
read_node-returns-in-Sequence-clause-path g t c =
    let graph = g.V.GraphView.graph c.args.graph.now in
    let routes = map (route_at graph (c.args.left - 1)) in
    let each : map route_of c.in_ok-paths-in-Sequence.paths.items ≡ routes c.in-Sequence.nodes.items =
    rw c.deref.ensures.value at c.in_ok-paths-in-Sequence.ensures.paths in
    sequence_read c.in_ok-form.ensures.met c.in-Sequence.nodes.items c.in_ok-paths-in-Sequence.paths each
    (ap told_form c.in-Sequence.is)

pub read_node-returns-in-Alternative-clause-path : goal.read_node-returns-in-Alternative-clause-path
read_node-returns-in-Alternative-clause-path g t c =
    let graph = g.V.GraphView.graph c.args.graph.now in
    let routes = map (route_at graph (c.args.left - 1)) in
    let each : map route_of c.in_ok-paths-in-Alternative.paths.items ≡ routes c.in-Alternative.nodes.items =
    rw c.deref-in-Alternative.ensures.value at c.in_ok-paths-in-Alternative.ensures.paths in
    alternative_read c.in_ok-form.ensures.met c.in-Alternative.nodes.items c.in_ok-paths-in-Alternative.paths
    each (ap told_form c.in-Alternative.is)

pub read_nodes-returns-in_err-path-clause-fault : goal.read_nodes-returns-in_err-path-clause-fault
read_nodes-returns-in_err-path-clause-fault g t c =
    let graph = g.V.GraphView.graph c.args.graph.now in
    let raised = err_from_is_err_and c.from_residual.result c.from_residual.ensures.1 in
    rw (raised.1, raised.2)
    (λ other.
    row_fault graph c.args.limit c.args.left c.args.parts.now c.loop-node.parts c.args.nodes.now
    c.loop-node.node-index c.in_err-path.field-0.0 c.loop-node-test.true c.loop-node.invariant.counted
    (c.in_err-path.ensures.fault other))

pub read_nodes-loop-node-preserved : goal.read_nodes-loop-node-preserved
read_nodes-loop-node-preserved g t c =
    let graph = g.V.GraphView.graph c.args.graph.now in
    record {
      counted = row_more graph c.args.limit c.args.left c.args.parts.now c.loop-node.parts
          c.read_node.new.parts c.args.nodes.now c.loop-node.node-index c.loop-node-test.true
          c.loop-node.invariant.counted c.in_ok-path.ensures.counted;
      paths = routes_more route_of (route_at graph c.args.left) c.loop-node.paths.items
          c.push.new.self.items c.in_ok-path.path c.args.nodes.now c.loop-node.node-index
          c.loop-node-test.true c.in_ok-push.ensures.items c.loop-node.invariant.paths
          c.in_ok-path.ensures.path;
      known = c.read_node.ensures.known;
    }
