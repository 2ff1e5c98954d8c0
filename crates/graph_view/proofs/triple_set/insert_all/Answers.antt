use Rattle.std.proofs.Common.{◌∙◌, length}
use Rattle.shx_term.specs.Triple.{same_triple}
use Rattle.shx_term.specs.inner.TripleLaws.{same_triple_equiv, same_triple_exact}
use Rattle.graph_view.proofs.ExchangeLemmas.{take-insert, length-insert}
use Rattle.shx_term.proofs.SetLemmas.{Adds-insert, Adds-take_one}
use Rattle.graph_view.proofs.triple_set.insert_all.Goals as goal

pub loop-t-preserved : goal.loop-t-preserved
loop-t-preserved c =
    let front = length c.args.triples.now.keys in
    let keys = c.loop-t.triples.keys in
    let before = c.loop-t.invariant in
    rw c.in_ok-insert.ensures.keys (
      Adds-take_one c.args.added.now c.loop-t.t-index _ c.loop-t-test.true before.0
          (Adds-insert same_triple same_triple_equiv same_triple_exact keys _),
      length-insert keys _ front before.1,
      take-insert front keys _ before.1 ∙ before.2,
    )
