use Rattle.shape_eval.proofs.ConstraintLemmas.{AgreesAt, AsksValuesAt, of_any}
use Rattle.shape_eval.proofs.constraint_component.ConstraintComponent.laws.Goals as goal

pub returns-clause-agreement : goal.returns-clause-agreement
returns-clause-agreement c =
    of_any AgreesAt c.laws.ensures.agreement c.laws-2.ensures.agreement c.laws-3.ensures.agreement
    c.laws-4.ensures.agreement c.laws-5.ensures.agreement c.laws-6.ensures.agreement
    c.laws-7.ensures.agreement c.laws-8.ensures.agreement c.laws-9.ensures.agreement
    c.laws-10.ensures.agreement c.laws-11.ensures.agreement c.laws-12.ensures.agreement
    c.laws-13.ensures.agreement c.laws-14.ensures.agreement c.laws-15.ensures.agreement
    c.laws-16.ensures.agreement c.laws-17.ensures.agreement c.laws-18.ensures.agreement
    c.laws-19.ensures.agreement c.laws-20.ensures.agreement c.laws-21.ensures.agreement
    c.laws-22.ensures.agreement c.laws-23.ensures.agreement c.laws-24.ensures.agreement
    c.laws-25.ensures.agreement c.laws-26.ensures.agreement c.laws-27.ensures.agreement
    c.laws-28.ensures.agreement c.laws-29.ensures.agreement

pub returns-clause-asks_values : goal.returns-clause-asks_values
returns-clause-asks_values c =
    of_any AsksValuesAt c.laws.ensures.asks_values c.laws-2.ensures.asks_values
    c.laws-3.ensures.asks_values c.laws-4.ensures.asks_values c.laws-5.ensures.asks_values
    c.laws-6.ensures.asks_values c.laws-7.ensures.asks_values c.laws-8.ensures.asks_values
    c.laws-9.ensures.asks_values c.laws-10.ensures.asks_values c.laws-11.ensures.asks_values
    c.laws-12.ensures.asks_values c.laws-13.ensures.asks_values c.laws-14.ensures.asks_values
    c.laws-15.ensures.asks_values c.laws-16.ensures.asks_values c.laws-17.ensures.asks_values
    c.laws-18.ensures.asks_values c.laws-19.ensures.asks_values c.laws-20.ensures.asks_values
    c.laws-21.ensures.asks_values c.laws-22.ensures.asks_values c.laws-23.ensures.asks_values
    c.laws-24.ensures.asks_values c.laws-25.ensures.asks_values c.laws-26.ensures.asks_values
    c.laws-27.ensures.asks_values c.laws-28.ensures.asks_values c.laws-29.ensures.asks_values
