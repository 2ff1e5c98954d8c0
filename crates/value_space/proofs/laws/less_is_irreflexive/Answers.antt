use Rattle.value_space.specs.Values.{value_of}
use Rattle.value_space.specs.Comparison.{order_of}
use Rattle.value_space.proofs.OrderLemmas.{less-order, order-same}
use Rattle.value_space.proofs.laws.less_is_irreflexive.Goals as goal

pub returns : goal.returns
returns c = λ h. let a = c.args.a.now in order-same a.lexical (value_of a) (less-order (order_of a a) h)
