use Rattle.std.specs.Prelude.{flat_map, take}
use Rattle.path_eval.specs.inner.Reached.{Joins}
use Rattle.path_eval.specs.inner.States.{goes, looks}
use Rattle.path_eval.proofs.search.follow_edges.Given as goal

abbrev pub invariant-loop-edge : goal.invariant-loop-edge
invariant-loop-edge g l =
    let graph = g.V.GraphView.graph l.view in
    let done = take l.edge-index l.edges in
    record {
      seen : Joins l.initial.seen (flat_map (goes graph l.state) done) l.seen;
      reads : g.N.Notes.notes l.initial.reads l.reads (flat_map (looks graph l.state) done);
    }
