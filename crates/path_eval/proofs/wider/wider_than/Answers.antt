use Rattle.std.specs.Prelude.{length}
use Rattle.std.proofs.Common.{sym, ap, subst, arith}
use Rattle.path_eval.specs.Superclasses.{AreWider}
use Rattle.path_eval.proofs.WiderLemmas.{Climbed-all, Climbed-next}
use Rattle.path_eval.proofs.wider.wider_than.Goals as goal

pub loop-at-preserved : goal.loop-at-preserved
loop-at-preserved g c =
    Climbed-next (g.V.GraphView.graph c.args.view.now) c.args.class c.loop-at.climb.wider
    c.follow.new.self.wider c.loop-at.at c.loop-at.invariant c.as_slice-in-loop-at.result.now _
    c.as_slice-in-loop-at.ensures.keys
    (omega (
      arith,
      c.loop-at-test.true,
      ap length c.as_slice.ensures.keys,
      ap length
          c.as_slice-in-loop-at.ensures.keys,
    ))
    c.in_ok-follow.ensures

pub returns : goal.returns
returns g c =
    let graph = g.V.GraphView.graph c.args.view.now in
    let wider = c.loop-at.climb.wider in
    subst (AreWider graph c.args.class) (sym c.into_wider.ensures)
    (Climbed-all graph c.args.class c.pool.ensures.known wider c.loop-at.at c.loop-at.invariant
    (omega (arith, c.loop-at-test.false, ap length c.as_slice.ensures.keys)))
