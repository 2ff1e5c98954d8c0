use Rattle.comp_core.proofs.LawLemmas.{asks_none}
use Rattle.value_components.proofs.TagLemmas.{unique_lang_agrees}
use Rattle.value_components.proofs.unique_lang.UniqueLangComponent.laws.Goals as goal

pub returns-clause-agreement : goal.returns-clause-agreement
returns-clause-agreement c = unique_lang_agrees

pub returns-clause-asks_values : goal.returns-clause-asks_values
returns-clause-asks_values c = asks_none
