use Rattle.std.proofs.Common.{arith}
use Rattle.iri_resolve.proofs.WalkLemmas.{IsSegment-split_once}
use Rattle.iri_resolve.proofs.dot_segments.cut_segment.Goals as goal

pub returns : goal.returns
returns c =
    IsSegment-split_once c.args.path.now c.split_once.result
    (c.split_once.ensures.byte (omega arith) (λ w o f. f))
