use Rattle.std.specs.Prelude.{get_or, map}
use Rattle.std.proofs.Common.{arith, ap, ◌∙◌}
use Rattle.std.proofs.lemmas.Grind.{common_steps}
use Rattle.value_space.specs.Compared.{read_as}
use Rattle.pair_components.proofs.OrderLemmas.{beside_is}
use Rattle.pair_components.proofs.orders.check_order.Goals as goal

pub loop-v-preserved : goal.loop-v-preserved
loop-v-preserved g c =
    let own = get_or c.args.values.now c.loop-v.v-index 0 in
    let step =
    beside_is c.args.order (g.V.GraphView.graph c.args.view.now) c.args.kind c.args.at own
    c.args.others.now c.term_of.result.now (read_as c.of_term-term.result)
    (map read_as c.deref.result.now) c.term_of.ensures.term c.of_term-term.ensures
    (ap (map read_as) c.deref.ensures.value ∙ c.in_ok-read.ensures) in
    grind (arith, common_steps)
