use Rattle.std.specs.Prelude.{◌∷◌, []}
use Rattle.comp_core.proofs.AskLemmas.{asks_value_nodes}
use Rattle.logic_components.specs.declared.node.Node.{Node}
use Rattle.logic_components.proofs.NodeLemmas.{node_agrees}
use Rattle.logic_components.proofs.node.NodeComponent.laws.Goals as goal

pub returns-clause-agreement : goal.returns-clause-agreement
returns-clause-agreement c = node_agrees

pub returns-clause-asks_values : goal.returns-clause-asks_values
returns-clause-asks_values c = asks_value_nodes (λ (own : Node). own.shape ∷ [])
