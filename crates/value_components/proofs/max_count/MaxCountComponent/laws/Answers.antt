use Rattle.comp_core.proofs.LawLemmas.{asks_none}
use Rattle.value_space.specs.Counts.{is_more}
use Rattle.comp_core.specs.declared.kinds.TheConstants.{MAX_COUNT}
use Rattle.value_components.specs.declared.max_count.MaxCount.{MaxCount}
use Rattle.value_components.proofs.ComponentLemmas.{counts_agree}
use Rattle.value_components.proofs.max_count.MaxCountComponent.laws.Goals as goal

pub returns-clause-agreement : goal.returns-clause-agreement
returns-clause-agreement c = counts_agree (λ (own : MaxCount). own.value) is_more MAX_COUNT

pub returns-clause-asks_values : goal.returns-clause-asks_values
returns-clause-asks_values c = asks_none
