use Rattle.std.specs.Prelude.{◌≤◌, length}
use Rattle.std.proofs.Common.{rules}
use Rattle.shape_order.specs.Refs.{refs_of}
use Rattle.shape_order.proofs.NumberingLemmas.{all_more, all_end}
use Rattle.shape_order.proofs.numbering.number_all.Goals as goal

pub loop-root-preserved : goal.loop-root-preserved
loop-root-preserved c =
    all_more (refs_of c.args.refs.now) (length c.args.refs.now) c.loop-root.root c.loop-root.order
    c.loop-root.seen c.number_from.new.order c.number_from.new.seen c.loop-root.invariant
    (rw c.in_default.is at c.in_ok-shape.ensures.numbered) (rw c.in_default.is at c.in_ok-shape.ensures.also)

pub returns-clause-all : goal.returns-clause-all
returns-clause-all c =
    let far : length c.args.refs.now ≤ c.loop-root.root = search rules in
    all_end (refs_of c.args.refs.now) (length c.args.refs.now) c.loop-root.root c.loop-root.order
    c.loop-root.seen far c.loop-root.invariant
