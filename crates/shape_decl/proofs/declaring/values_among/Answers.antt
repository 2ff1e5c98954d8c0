use Rattle.graph_view.specs.declared.key.Key.TheVariants.{Out}
use Rattle.shape_decl.proofs.ObjectLemmas.{objects_among}
use Rattle.shape_decl.proofs.declaring.values_among.Goals as goal

pub returns : goal.returns
returns g c =
    let graph = g.V.GraphView.graph c.args.graph.now in
    let key = Out c.args.node c.args.p in
    rw (c.in_order.ensures, c.pool.ensures.terms, c.in_ok-found.ensures, c.requires)
    (objects_among graph c.args.node c.args.p)
