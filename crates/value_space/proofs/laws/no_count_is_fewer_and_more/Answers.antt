use Rattle.value_space.proofs.CountLemmas.{never_both}
use Rattle.value_space.proofs.laws.no_count_is_fewer_and_more.Goals as goal

pub returns : goal.returns
returns c = never_both c.args.count c.args.bound.now
