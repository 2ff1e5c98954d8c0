use Rattle.shape_decl.proofs.ShapeLemmas.{gathered_shapes}
use Rattle.shape_decl.proofs.shapes.find_shapes.Goals as goal

pub returns : goal.returns
returns g c =
    rw (
      c.in_order.ensures,
      c.keep_nodes.ensures,
      c.pool.ensures.terms,
      c.pool-2.ensures.terms,
      c.in_ok-found.ensures,
    )
    (gathered_shapes (g.V.GraphView.graph c.args.graph.now))
