use Rattle.std.proofs.lemmas.Result.{on_ok_weaker}
use Rattle.iri_resolve.proofs.WalkLemmas.{WritesFrom-walked}
use Rattle.iri_resolve.proofs.dot_segments.push_segments.Goals as goal

pub returns : goal.returns
returns c =
    let slash = c.in_ok-slash.ensures in
    on_ok_weaker c.push_last_segment.result
    (λ written. WritesFrom-walked _ _ _ _ _ _ _ _ slash.walked slash.last written) c.push_last_segment.ensures
