use Rattle.comp_core.proofs.LawLemmas.{asks_none}
use Rattle.value_space.specs.Compared.{is_less_eq_term}
use Rattle.comp_core.specs.declared.kinds.TheConstants.{MAX_INCLUSIVE}
use Rattle.value_components.specs.declared.max_inclusive.MaxInclusive.{MaxInclusive}
use Rattle.value_components.proofs.ComponentLemmas.{pairs_agree}
use Rattle.value_components.proofs.max_inclusive.MaxInclusiveComponent.laws.Goals as goal

pub returns-clause-agreement : goal.returns-clause-agreement
returns-clause-agreement c =
    pairs_agree (λ (own : MaxInclusive). own.value) (λ bound t. is_less_eq_term t bound) MAX_INCLUSIVE

pub returns-clause-asks_values : goal.returns-clause-asks_values
returns-clause-asks_values c = asks_none
