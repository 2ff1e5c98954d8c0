use Rattle.value_space.proofs.CountLemmas.{fewer-less_term, more-less_term}
use Rattle.value_space.proofs.laws.counts_compare_as_literals.Goals as goal

pub returns-clause-fewer : goal.returns-clause-fewer
returns-clause-fewer c = λ is. fewer-less_term c.args.count c.args.integer.now is c.args.bound.now

pub returns-clause-more : goal.returns-clause-more
returns-clause-more c = λ is. more-less_term c.args.count c.args.integer.now is c.args.bound.now
