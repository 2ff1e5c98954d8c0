use Rattle.value_space.proofs.CountLemmas.{fewer-whole, more-whole}
use Rattle.value_space.proofs.laws.counts_compare_with_whole_numbers.Goals as goal

pub returns-clause-fewer : goal.returns-clause-fewer
returns-clause-fewer c = λ n is. fewer-whole c.args.count n c.args.bound.now is

pub returns-clause-more : goal.returns-clause-more
returns-clause-more c = λ n is. more-whole c.args.count n c.args.bound.now is
