use Rattle.std.specs.List.{list_all}
use Rattle.comp_core.specs.Asking.{conforms}
use Rattle.comp_core.specs.declared.kinds.TheConstants.{AND}
use Rattle.comp_core.proofs.AskLemmas.{asks_value_nodes}
use Rattle.comp_core.proofs.CountLemmas.{all_counted}
use Rattle.logic_components.specs.declared.conjunction.And.{And}
use Rattle.logic_components.specs.declared.demand.Demand.TheVariants.{All}
use Rattle.logic_components.proofs.DemandLemmas.{demands_agree}
use Rattle.logic_components.proofs.conjunction.AndComponent.laws.Goals as goal

pub returns-clause-agreement : goal.returns-clause-agreement
returns-clause-agreement c =
    demands_agree All (λ (own : And). own.shapes.items)
    (λ (own : And) m v. list_all (conforms m v) own.shapes.items) AND
    (λ own m v. all_counted (conforms m v) own.shapes.items)

pub returns-clause-asks_values : goal.returns-clause-asks_values
returns-clause-asks_values c = asks_value_nodes (λ (own : And). own.shapes.items)
