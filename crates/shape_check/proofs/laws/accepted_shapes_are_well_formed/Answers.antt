use Rattle.shape_check.proofs.WellFormedLemmas.{accepted, accepted_graph}
use Rattle.shape_check.proofs.laws.accepted_shapes_are_well_formed.Goals as goal

pub returns-clause-shapes : goal.returns-clause-shapes
returns-clause-shapes c = accepted

pub returns-clause-graph : goal.returns-clause-graph
returns-clause-graph c = accepted_graph
