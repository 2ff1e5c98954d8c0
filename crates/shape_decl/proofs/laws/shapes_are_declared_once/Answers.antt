use Rattle.shape_decl.proofs.NamedLemmas.{declared_nodes, distinct_shapes}
use Rattle.shape_decl.proofs.laws.shapes_are_declared_once.Goals as goal

pub returns-clause-nodes : goal.returns-clause-nodes
returns-clause-nodes c = declared_nodes

pub returns-clause-distinct : goal.returns-clause-distinct
returns-clause-distinct c = distinct_shapes
