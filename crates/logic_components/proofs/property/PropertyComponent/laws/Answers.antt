use Rattle.std.specs.Prelude.{◌∷◌, []}
use Rattle.comp_core.proofs.AskLemmas.{asks_value_nodes}
use Rattle.logic_components.specs.declared.property.Property.{Property}
use Rattle.logic_components.proofs.PropertyLemmas.{property_agrees}
use Rattle.logic_components.proofs.property.PropertyComponent.laws.Goals as goal

pub returns-clause-agreement : goal.returns-clause-agreement
returns-clause-agreement c = property_agrees

pub returns-clause-asks_values : goal.returns-clause-asks_values
returns-clause-asks_values c = asks_value_nodes (λ (own : Property). own.shape ∷ [])
