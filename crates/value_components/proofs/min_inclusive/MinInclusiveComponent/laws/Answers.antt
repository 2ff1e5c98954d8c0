use Rattle.comp_core.proofs.LawLemmas.{asks_none}
use Rattle.value_space.specs.Compared.{is_less_eq_term}
use Rattle.comp_core.specs.declared.kinds.TheConstants.{MIN_INCLUSIVE}
use Rattle.value_components.specs.declared.min_inclusive.MinInclusive.{MinInclusive}
use Rattle.value_components.proofs.ComponentLemmas.{pairs_agree}
use Rattle.value_components.proofs.min_inclusive.MinInclusiveComponent.laws.Goals as goal

pub returns-clause-agreement : goal.returns-clause-agreement
returns-clause-agreement c = pairs_agree (λ (own : MinInclusive). own.value) is_less_eq_term MIN_INCLUSIVE

pub returns-clause-asks_values : goal.returns-clause-asks_values
returns-clause-asks_values c = asks_none
