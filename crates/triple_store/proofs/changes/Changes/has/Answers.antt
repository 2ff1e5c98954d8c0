use Rattle.std.specs.Cmp.{both_ways}
use Rattle.shx_term.specs.Triple.{same_triple}
use Rattle.shx_term.specs.inner.TripleLaws.{same_triple_equiv, same_triple_exact}
use Rattle.graph_view.proofs.PatchedLemmas.{gone_test}
use Rattle.triple_store.proofs.OverlayLemmas.{is_gone}
use Rattle.triple_store.proofs.changes.Changes.has.Goals as goal

pub returns : goal.returns
returns c =
    let triples = c.self.inside.triples.now in
    let t = c.args.t.now in
    let same = c.self.invariant.0.each t in
    let test = gone_test same_triple same_triple_equiv same_triple_exact triples t in
    rw (← c.self.view_is)
    (both_ways c.contains.result (is_gone triples t)
    (λ h. test.1 (same.1 (c.contains.ensures.0 h)))
    (λ h. c.contains.ensures.1 (same.0 (test.0 h))))
