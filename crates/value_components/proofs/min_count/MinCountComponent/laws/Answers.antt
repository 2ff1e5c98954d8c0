use Rattle.comp_core.proofs.LawLemmas.{asks_none}
use Rattle.value_space.specs.Counts.{is_fewer}
use Rattle.comp_core.specs.declared.kinds.TheConstants.{MIN_COUNT}
use Rattle.value_components.specs.declared.min_count.MinCount.{MinCount}
use Rattle.value_components.proofs.ComponentLemmas.{counts_agree}
use Rattle.value_components.proofs.min_count.MinCountComponent.laws.Goals as goal

pub returns-clause-agreement : goal.returns-clause-agreement
returns-clause-agreement c = counts_agree (λ (own : MinCount). own.value) is_fewer MIN_COUNT

pub returns-clause-asks_values : goal.returns-clause-asks_values
returns-clause-asks_values c = asks_none
