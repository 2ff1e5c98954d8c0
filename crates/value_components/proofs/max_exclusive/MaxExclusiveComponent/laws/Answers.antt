use Rattle.comp_core.proofs.LawLemmas.{asks_none}
use Rattle.value_space.specs.Compared.{is_less_term}
use Rattle.comp_core.specs.declared.kinds.TheConstants.{MAX_EXCLUSIVE}
use Rattle.value_components.specs.declared.max_exclusive.MaxExclusive.{MaxExclusive}
use Rattle.value_components.proofs.ComponentLemmas.{pairs_agree}
use Rattle.value_components.proofs.max_exclusive.MaxExclusiveComponent.laws.Goals as goal

pub returns-clause-agreement : goal.returns-clause-agreement
returns-clause-agreement c =
    pairs_agree (λ (own : MaxExclusive). own.value) (λ bound t. is_less_term t bound) MAX_EXCLUSIVE

pub returns-clause-asks_values : goal.returns-clause-asks_values
returns-clause-asks_values c = asks_none
