use Rattle.std.specs.Prelude.{◌∷◌, [], not}
use Rattle.comp_core.specs.Asking.{conforms}
use Rattle.comp_core.specs.declared.kinds.TheConstants.{NOT}
use Rattle.comp_core.proofs.AskLemmas.{asks_value_nodes}
use Rattle.logic_components.specs.declared.negation.Not.{Not}
use Rattle.logic_components.specs.declared.demand.Demand.TheVariants.{None}
use Rattle.logic_components.proofs.DemandLemmas.{demands_agree, is_none_of_one}
use Rattle.logic_components.proofs.negation.NotComponent.laws.Goals as goal

pub returns-clause-agreement : goal.returns-clause-agreement
returns-clause-agreement c =
    demands_agree None (λ (own : Not). own.shape ∷ [])
    (λ (own : Not) m v. not (conforms m v own.shape)) NOT
    (λ own m v. is_none_of_one (conforms m v own.shape) own.shape)

pub returns-clause-asks_values : goal.returns-clause-asks_values
returns-clause-asks_values c = asks_value_nodes (λ (own : Not). own.shape ∷ [])
