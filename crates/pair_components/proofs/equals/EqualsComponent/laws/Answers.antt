use Rattle.std.proofs.Common.{◌++◌}
use Rattle.pair_components.specs.Equals.{each_missing}
use Rattle.comp_core.proofs.LawLemmas.{asks_none}
use Rattle.pair_components.specs.declared.equals.Equals.{Equals}
use Rattle.pair_components.proofs.PairLemmas.{members_agree}
use Rattle.pair_components.proofs.equals.EqualsComponent.laws.Goals as goal

pub returns-clause-agreement : goal.returns-clause-agreement
returns-clause-agreement c =
    members_agree c.look_ups_agree.ensures.objects (λ (own : Equals). own.value)
    (λ at objects vs. each_missing at objects vs ++ each_missing at vs objects)

pub returns-clause-asks_values : goal.returns-clause-asks_values
returns-clause-asks_values c = asks_none
