use Rattle.std.proofs.Common.{◌≡◌, ◌+◌, ◌*◌, map, take, Ok}
use Rattle.path_eval.specs.Route.{route_of}
use Rattle.shape_decl.specs.PathReadings.{route_at}
use Rattle.shape_decl.specs.inner.Kept.{AreReadingsOf}
use Rattle.shape_decl.specs.inner.Visits.{counted, row_visits}
use Rattle.shape_decl.proofs.path_nodes.+read.Given as goal

abbrev pub decreases-read_node : goal.decreases-read_node
decreases-read_node g l = 2 * l.left

abbrev pub decreases-read_nodes : goal.decreases-read_nodes
decreases-read_nodes g l = 2 * l.left + 1

abbrev pub decreases-read_inside : goal.decreases-read_inside
decreases-read_inside g l = 2 * l.left + 1

abbrev pub invariant-read_nodes-loop-node : goal.invariant-read_nodes-loop-node
invariant-read_nodes-loop-node g l = record {
  counted : counted (g.V.GraphView.graph l.graph) l.limit l.fn.parts
      (row_visits (g.V.GraphView.graph l.graph) l.left (take l.node-index l.nodes))
      ≡ Ok l.parts;
  paths : map route_of l.paths.items
      ≡ map (route_at (g.V.GraphView.graph l.graph) l.left) (take l.node-index l.nodes);
  known : AreReadingsOf (g.V.GraphView.graph l.graph) l.readings;
}
