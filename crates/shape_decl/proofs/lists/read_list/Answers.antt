use Rattle.shape_decl.proofs.lists.read_list.Goals as goal

pub known_list-requires : goal.known_list-requires
known_list-requires g c = c.no_readings.ensures (g.V.GraphView.graph c.args.graph.now)
