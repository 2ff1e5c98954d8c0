use Rattle.graph_rows.proofs.tests.steps.inserted.Goals as goal

pub insert-requires : goal.insert-requires
insert-requires g c = c.is_known_triple.ensures c.if-is_known_triple.true
