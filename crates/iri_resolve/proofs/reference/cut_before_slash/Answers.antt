use Rattle.iri_resolve.proofs.WalkLemmas.{IsCharBoundary-before_slash}
use Rattle.iri_resolve.proofs.reference.cut_before_slash.Goals as goal

pub split_at-requires : goal.split_at-requires
split_at-requires c = IsCharBoundary-before_slash c.args.text.now c.cut.result.0.now c.cut.ensures.before
