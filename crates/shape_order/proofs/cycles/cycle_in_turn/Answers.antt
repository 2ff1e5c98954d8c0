use Rattle.std.proofs.Common.{arith}
use Rattle.shape_order.specs.Refs.{refs_of}
use Rattle.shape_order.proofs.LeastLemmas.{least_of, none_more, recursive_below}
use Rattle.shape_order.proofs.cycles.cycle_in_turn.Goals as goal

pub cycle_from-requires-clause-start : goal.cycle_from-requires-clause-start
cycle_from-requires-clause-start c =
    let below = recursive_below c.args.refs.now c.args.known c.requires.known in
    let near = c.loop-cycle.invariant.near in
    omega arith

pub returns-in-Some : goal.returns-in-Some
returns-in-Some c =
    least_of (refs_of c.args.refs.now) c.loop-cycle.shape c.in-Some.cycle.items
    (rw c.in-Some.is at c.in_ok-cycle.ensures.cycle) c.loop-cycle.invariant.none

pub loop-cycle-preserved : goal.loop-cycle-preserved
loop-cycle-preserved c =
    (none_more (refs_of c.args.refs.now) c.args.known c.loop-cycle.shape c.loop-cycle.invariant
    c.requires.known (rw c.in_default.is at c.in_ok-cycle.ensures.none)).0
