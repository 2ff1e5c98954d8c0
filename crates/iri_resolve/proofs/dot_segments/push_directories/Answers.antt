use Rattle.std.proofs.Common.{rules}
use Rattle.iri_resolve.proofs.WalkLemmas.{Walking-step, IsWalked-end, last_segment-end}
use Rattle.iri_resolve.proofs.dot_segments.push_directories.Goals as goal

pub loop-segment-preserved : goal.loop-segment-preserved
loop-segment-preserved c =
    let next = c.in_ok-next.ensures in (
      search rules,
      Walking-step _ _ _ _ _ _ _ _ _ _ _ c.loop-segment.invariant.1 c.in-Some.ensures next.written next.next,
    )

pub returns-clause-walked : goal.returns-clause-walked
returns-clause-walked c = IsWalked-end _ _ _ _ _ _ _ c.loop-segment.invariant.1 c.in_default.ensures

pub returns-clause-last : goal.returns-clause-last
returns-clause-last c = last_segment-end _ _ _ _ _ _ _ c.loop-segment.invariant.1 c.in_default.ensures
