use Rattle.pair_results.proofs.EmptyLemmas.{HasNothing-empty, IsCounted-empty}
use Rattle.pair_results.proofs.pair_results.PairResults.new.Goals as goal

pub invariant_of-result : goal.invariant_of-result
invariant_of-result c = IsCounted-empty _ _ c.loop.invariant.empty c.new-2.ensures.empty

pub returns-clause-nothing : goal.returns-clause-nothing
returns-clause-nothing c = HasNothing-empty _ _ c.loop.invariant.empty
