use Rattle.shx_term.specs.Members.{SameMembers}
use Rattle.std.specs.Prelude.{take, flat_map}
use Rattle.graph_view.specs.Graph.{HasTerms}
use Rattle.shape_eval.specs.Targets.{nodes_of_target, reads_of_target}
use Rattle.shape_eval.proofs.targets.nodes_found.Given as goal

abbrev pub invariant-loop-target : goal.invariant-loop-target
invariant-loop-target g l = record {
  nodes : SameMembers l.found.items
      (flat_map (nodes_of_target (g.V.GraphView.graph l.view)) (take l.target-index l.target-items));
  reads : g.N.Notes.notes l.fn.reads l.reads
      (flat_map (reads_of_target (g.V.GraphView.graph l.view)) (take l.target-index l.target-items));
  known : HasTerms (g.V.GraphView.graph l.view) l.found.items;
}
