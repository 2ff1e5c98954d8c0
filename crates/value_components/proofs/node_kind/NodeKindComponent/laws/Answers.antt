use Rattle.comp_core.proofs.LawLemmas.{asks_none}
use Rattle.comp_core.specs.declared.kinds.TheConstants.{NODE_KIND}
use Rattle.value_components.specs.declared.node_kind.NodeKind.{NodeKind}
use Rattle.value_components.specs.NodeKind.{is_of_kind}
use Rattle.value_components.proofs.ComponentLemmas.{terms_agree}
use Rattle.value_components.proofs.node_kind.NodeKindComponent.laws.Goals as goal

pub returns-clause-agreement : goal.returns-clause-agreement
returns-clause-agreement c = terms_agree (λ (own : NodeKind). is_of_kind own.value) NODE_KIND

pub returns-clause-asks_values : goal.returns-clause-asks_values
returns-clause-asks_values c = asks_none
