use Rattle.std.proofs.Common.{arith, rules}
use Rattle.shape_order.proofs.OrderLemmas.{shape_within, order_short}
use Rattle.shape_order.proofs.PlacedLemmas.{placed_more}
use Rattle.shape_order.proofs.places.places_of.Goals as goal

pub overflow_cast-place : goal.overflow_cast-place
overflow_cast-place c =
    let short = order_short c.args.count c.args.order.now c.requires.each c.requires.distinct in
    let small = c.requires.small in
    let here = c.loop-place-test.true in
    omega arith

pub index_mut-requires : goal.index_mut-requires
index_mut-requires c =
    let within =
    shape_within c.args.count c.args.order.now c.requires.each c.loop-place.place c.loop-place-test.true in
    let long = c.loop-place.invariant.long in
    search rules

pub loop-place-preserved : goal.loop-place-preserved
loop-place-preserved c =
    placed_more c.args.count c.args.order.now c.requires.distinct c.requires.each c.loop-place.place
    c.loop-place.places.items c.loop-place-test.true c.loop-place.invariant
