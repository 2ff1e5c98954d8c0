use Rattle.std.proofs.Common.{rules}
use Rattle.ttl_tokens.proofs.DottedLemmas.{walked_true, walked_false, walked_longest}
use Rattle.ttl_tokens.proofs.name_walks.skip_name_tail.Goals as goal

pub loop-behind-preserved-then-last : goal.loop-behind-preserved-then-last
loop-behind-preserved-then-last c = record {
  rest = search rules;
  end = search rules;
  walked = walked_true _ c.if-last.true c.in-Some.ensures c.loop-behind.invariant.walked;
}

pub loop-behind-preserved : goal.loop-behind-preserved
loop-behind-preserved c = record {
  rest = search rules;
  end = c.loop-behind.invariant.end;
  walked = walked_false _ c.if-last.false c.in-Some.ensures c.loop-behind.invariant.walked;
}

pub returns : goal.returns
returns c = walked_longest c.loop-behind.invariant.walked c.in_default.ensures
