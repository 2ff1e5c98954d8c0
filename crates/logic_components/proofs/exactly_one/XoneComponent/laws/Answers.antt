use Rattle.std.specs.Prelude.{◌==◌}
use Rattle.std.proofs.Common.{refl}
use Rattle.comp_core.specs.Asking.{conforming_of}
use Rattle.comp_core.specs.declared.kinds.TheConstants.{XONE}
use Rattle.comp_core.proofs.AskLemmas.{asks_value_nodes}
use Rattle.logic_components.specs.declared.exactly_one.Xone.{Xone}
use Rattle.logic_components.specs.declared.demand.Demand.TheVariants.{One}
use Rattle.logic_components.proofs.DemandLemmas.{demands_agree}
use Rattle.logic_components.proofs.exactly_one.XoneComponent.laws.Goals as goal

pub returns-clause-agreement : goal.returns-clause-agreement
returns-clause-agreement c =
    demands_agree One (λ (own : Xone). own.shapes.items)
    (λ (own : Xone) m v. conforming_of m own.shapes.items v == 1) XONE
    (λ own m v. refl)

pub returns-clause-asks_values : goal.returns-clause-asks_values
returns-clause-asks_values c = asks_value_nodes (λ (own : Xone). own.shapes.items)
