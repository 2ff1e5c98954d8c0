use Rattle.value_space.specs.Comparison.{order_of}
use Rattle.value_space.proofs.OrderLemmas.{less_eq-order, less_eq-answers}
use Rattle.value_space.proofs.laws.less_eq_is_less_or_equal.Goals as goal

pub returns-clause-answers : goal.returns-clause-answers
returns-clause-answers c = less_eq-answers (order_of c.args.a.now c.args.b.now)

pub returns-clause-holds : goal.returns-clause-holds
returns-clause-holds c = less_eq-order (order_of c.args.a.now c.args.b.now)
