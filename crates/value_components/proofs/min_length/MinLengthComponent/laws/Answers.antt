use Rattle.comp_core.proofs.LawLemmas.{asks_none}
use Rattle.comp_core.specs.declared.kinds.TheConstants.{MIN_LENGTH}
use Rattle.value_components.specs.declared.min_length.MinLength.{MinLength}
use Rattle.value_components.specs.MinLength.{is_long}
use Rattle.value_components.proofs.ComponentLemmas.{pairs_agree}
use Rattle.value_components.proofs.min_length.MinLengthComponent.laws.Goals as goal

pub returns-clause-agreement : goal.returns-clause-agreement
returns-clause-agreement c = pairs_agree (λ (own : MinLength). own.value) is_long MIN_LENGTH

pub returns-clause-asks_values : goal.returns-clause-asks_values
returns-clause-asks_values c = asks_none
