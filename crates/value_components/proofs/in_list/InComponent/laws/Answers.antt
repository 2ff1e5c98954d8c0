use Rattle.comp_core.proofs.LawLemmas.{asks_none}
use Rattle.value_components.specs.InList.{in_hits}
use Rattle.value_components.proofs.ComponentLemmas.{fixed_agrees}
use Rattle.value_components.proofs.in_list.InComponent.laws.Goals as goal

pub returns-clause-agreement : goal.returns-clause-agreement
returns-clause-agreement c = fixed_agrees in_hits

pub returns-clause-asks_values : goal.returns-clause-asks_values
returns-clause-asks_values c = asks_none
