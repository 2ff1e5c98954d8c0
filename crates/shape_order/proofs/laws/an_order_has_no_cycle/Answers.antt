use Rattle.shape_order.proofs.OrderLemmas.{none_recursive}
use Rattle.shape_order.proofs.laws.an_order_has_no_cycle.Goals as goal

pub returns : goal.returns
returns c = none_recursive
