use Rattle.comp_core.proofs.LawLemmas.{asks_none}
use Rattle.comp_core.specs.declared.kinds.TheConstants.{MAX_LENGTH}
use Rattle.value_components.specs.declared.max_length.MaxLength.{MaxLength}
use Rattle.value_components.specs.MaxLength.{is_short}
use Rattle.value_components.proofs.ComponentLemmas.{pairs_agree}
use Rattle.value_components.proofs.max_length.MaxLengthComponent.laws.Goals as goal

pub returns-clause-agreement : goal.returns-clause-agreement
returns-clause-agreement c = pairs_agree (λ (own : MaxLength). own.value) is_short MAX_LENGTH

pub returns-clause-asks_values : goal.returns-clause-asks_values
returns-clause-asks_values c = asks_none
