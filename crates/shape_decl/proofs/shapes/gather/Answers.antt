use Rattle.shape_decl.proofs.shapes.gather.Goals as goal

pub gather_members-requires : goal.gather_members-requires
gather_members-requires g c = c.no_readings.ensures (g.V.GraphView.graph c.args.graph.now)
