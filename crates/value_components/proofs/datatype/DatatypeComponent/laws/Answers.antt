use Rattle.comp_core.proofs.LawLemmas.{asks_none}
use Rattle.comp_core.specs.declared.kinds.TheConstants.{DATATYPE}
use Rattle.value_components.specs.declared.datatype.Datatype.{Datatype}
use Rattle.value_components.specs.Datatype.{is_typed_by}
use Rattle.value_components.proofs.ComponentLemmas.{pairs_agree}
use Rattle.value_components.proofs.datatype.DatatypeComponent.laws.Goals as goal

pub returns-clause-agreement : goal.returns-clause-agreement
returns-clause-agreement c = pairs_agree (λ (own : Datatype). own.value) is_typed_by DATATYPE

pub returns-clause-asks_values : goal.returns-clause-asks_values
returns-clause-asks_values c = asks_none
