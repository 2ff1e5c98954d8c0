use Rattle.value_space.specs.Values.{value_of}
use Rattle.value_space.specs.Comparison.{order_of}
use Rattle.value_space.proofs.OrderLemmas.{less-order, order-less, order-trans}
use Rattle.value_space.proofs.laws.less_is_transitive.Goals as goal

pub returns : goal.returns
returns c = λ l m.
    let x = c.args.a.now in
    let y = c.args.b.now in
    let z = c.args.c.now in
    order-less (order_of x z)
    (order-trans x.lexical y.lexical z.lexical (value_of x) (value_of y) (value_of z)
    (less-order (order_of x y) l) (less-order (order_of y z) m))
