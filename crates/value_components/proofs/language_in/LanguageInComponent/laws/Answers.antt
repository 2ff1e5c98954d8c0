use Rattle.comp_core.proofs.LawLemmas.{asks_none}
use Rattle.value_components.proofs.TagLemmas.{language_in_agrees}
use Rattle.value_components.proofs.language_in.LanguageInComponent.laws.Goals as goal

pub returns-clause-agreement : goal.returns-clause-agreement
returns-clause-agreement c = language_in_agrees

pub returns-clause-asks_values : goal.returns-clause-asks_values
returns-clause-asks_values c = asks_none
