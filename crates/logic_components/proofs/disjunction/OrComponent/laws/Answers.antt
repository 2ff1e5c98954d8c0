use Rattle.std.specs.List.{list_any}
use Rattle.comp_core.specs.Asking.{conforms}
use Rattle.comp_core.specs.declared.kinds.TheConstants.{OR}
use Rattle.comp_core.proofs.AskLemmas.{asks_value_nodes}
use Rattle.comp_core.proofs.CountLemmas.{some_counted}
use Rattle.logic_components.specs.declared.disjunction.Or.{Or}
use Rattle.logic_components.specs.declared.demand.Demand.TheVariants.{Some}
use Rattle.logic_components.proofs.DemandLemmas.{demands_agree}
use Rattle.logic_components.proofs.disjunction.OrComponent.laws.Goals as goal

pub returns-clause-agreement : goal.returns-clause-agreement
returns-clause-agreement c =
    demands_agree Some (λ (own : Or). own.shapes.items)
    (λ (own : Or) m v. list_any (conforms m v) own.shapes.items) OR
    (λ own m v. some_counted (conforms m v) own.shapes.items)

pub returns-clause-asks_values : goal.returns-clause-asks_values
returns-clause-asks_values c = asks_value_nodes (λ (own : Or). own.shapes.items)
