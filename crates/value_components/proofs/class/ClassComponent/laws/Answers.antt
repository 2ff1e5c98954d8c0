use Rattle.comp_core.proofs.LawLemmas.{asks_none}
use Rattle.value_components.proofs.ClassLemmas.{class_agrees}
use Rattle.value_components.proofs.class.ClassComponent.laws.Goals as goal

pub returns-clause-agreement : goal.returns-clause-agreement
returns-clause-agreement c = class_agrees c.paths_depend_on_their_reads.ensures

pub returns-clause-asks_values : goal.returns-clause-asks_values
returns-clause-asks_values c = asks_none
