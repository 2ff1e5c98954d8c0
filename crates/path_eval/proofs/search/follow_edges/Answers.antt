use Rattle.path_eval.specs.inner.States.{goes, looks}
use Rattle.path_eval.proofs.JoinLemmas.{Joins-take_list, notes-take_list}
use Rattle.path_eval.proofs.search.follow_edges.Goals as goal

pub loop-edge-preserved : goal.loop-edge-preserved
loop-edge-preserved g c =
    let graph = g.V.GraphView.graph c.args.view.now in
    let edges = c.args.edges.now in
    let at = c.loop-edge.edge-index in
    record {
      seen = Joins-take_list (goes graph c.args.state) edges at _ c.loop-edge-test.true
          c.loop-edge.invariant.seen c.in_ok-follow_edge.ensures.seen;
      reads = notes-take_list g.met.N.Notes.laws (looks graph c.args.state) edges at _ c.loop-edge-test.true
          c.loop-edge.invariant.reads c.in_ok-follow_edge.ensures.reads;
    }
