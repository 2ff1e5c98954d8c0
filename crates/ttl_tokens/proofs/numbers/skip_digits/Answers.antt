use Rattle.std.proofs.Common.{rules}
use Rattle.ttl_tokens.proofs.FormLemmas.{runs_more}
use Rattle.ttl_tokens.proofs.numbers.skip_digits.Goals as goal

pub loop-behind-preserved : goal.loop-behind-preserved
loop-behind-preserved c = (search rules, runs_more c.loop-behind.invariant.1 c.in-Some.ensures)
