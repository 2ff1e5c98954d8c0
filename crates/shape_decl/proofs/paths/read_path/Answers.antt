use Rattle.shape_decl.proofs.paths.read_path.Goals as goal

pub path_with-requires : goal.path_with-requires
path_with-requires g c = c.no_readings.ensures (g.V.GraphView.graph c.args.graph.now)
