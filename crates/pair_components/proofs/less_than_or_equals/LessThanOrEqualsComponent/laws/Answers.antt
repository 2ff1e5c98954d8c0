use Rattle.value_space.specs.Compared.{is_less_eq_term}
use Rattle.comp_core.specs.declared.kinds.TheConstants.{LESS_THAN_OR_EQUALS}
use Rattle.comp_core.proofs.LawLemmas.{asks_none}
use Rattle.pair_components.specs.declared.less_than_or_equals.LessThanOrEquals.{LessThanOrEquals}
use Rattle.pair_components.proofs.PairLemmas.{orders_agree}
use Rattle.pair_components.proofs.less_than_or_equals.LessThanOrEqualsComponent.laws.Goals as goal

pub returns-clause-agreement : goal.returns-clause-agreement
returns-clause-agreement c =
    orders_agree c.look_ups_agree.ensures.objects (λ (own : LessThanOrEquals). own.value) is_less_eq_term
    LESS_THAN_OR_EQUALS

pub returns-clause-asks_values : goal.returns-clause-asks_values
returns-clause-asks_values c = asks_none
