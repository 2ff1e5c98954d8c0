use Rattle.comp_core.proofs.LawLemmas.{asks_none}
use Rattle.comp_core.specs.declared.kinds.TheConstants.{PATTERN}
use Rattle.value_components.specs.declared.pattern.Pattern.{Pattern}
use Rattle.value_components.specs.Pattern.{has_match}
use Rattle.value_components.proofs.ComponentLemmas.{terms_agree}
use Rattle.value_components.proofs.pattern_component.PatternComponent.laws.Goals as goal

pub returns-clause-agreement : goal.returns-clause-agreement
returns-clause-agreement c = terms_agree (λ (own : Pattern). has_match own.built.text own.built.flags) PATTERN

pub returns-clause-asks_values : goal.returns-clause-asks_values
returns-clause-asks_values c = asks_none
