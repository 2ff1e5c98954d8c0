use Rattle.std.proofs.Common.{rules}
use Rattle.shape_decl.proofs.knowing.first_known.Goals as goal

pub returns : goal.returns
returns g c = record {
  readings = c.no_readings.ensures (g.V.GraphView.graph c.args.graph.now);
  paths = λ n x is. search rules;
  node_shapes = c.in_ok-instances_of.ensures;
  classes = c.in_ok-instances_of-2.ensures;
}
