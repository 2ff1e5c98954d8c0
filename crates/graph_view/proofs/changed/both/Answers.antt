use Rattle.std.proofs.Common.{◌≡◌, [], ◌++◌, refl, arith, rules}
use Rattle.shx_term.specs.InOrder.{in_order}
use Rattle.graph_view.proofs.SortedLemmas.{merge_goes_on, merge_ends}
use Rattle.graph_view.proofs.changed.both.Goals as goal

pub loop-x-init : goal.loop-x-init
loop-x-init g c =
    let none : c.in_ok-all.all.items ≡ [] = search rules in
    (c.requires.found, rw none refl)

pub put_before-requires : goal.put_before-requires
put_before-requires g c = record { sorted = c.loop-x.invariant.0 }

pub loop-x-preserved : goal.loop-x-preserved
loop-x-preserved g c =
    let terms = c.args.pool.now.terms in
    let cmp = g.T.Found.order terms in
    let puts = c.in_ok-rest.ensures in (
      puts.sorted,
      merge_goes_on cmp (g.T.Found.exact terms) c.args.new.now c.loop-x.rest.now c.in_ok-rest.rest.now
          c.loop-x.all.items c.put_before.new.all.items (in_order cmp (c.args.found.now ++ c.args.new.now))
          c.loop-x.x-index c.x-item.result c.loop-x-test.true c.x-item.is c.requires.new puts
          c.loop-x.invariant.1,
    )

pub returns : goal.returns
returns g c =
    let terms = c.args.pool.now.terms in
    let cmp = g.T.Found.order terms in
    let whole = merge_ends cmp (g.T.Found.exact terms) c.args.new.now c.loop-x.rest.now c.loop-x.all.items
    (in_order cmp (c.args.found.now ++ c.args.new.now)) c.loop-x.x-index (omega (arith, c.loop-x-test.false))
    c.loop-x.invariant.0 c.loop-x.invariant.1 in
    search rules
