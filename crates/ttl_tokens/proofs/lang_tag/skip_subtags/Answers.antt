use Rattle.std.proofs.Common.{rules}
use Rattle.ttl_tokens.proofs.LangTagLemmas.{subtags_more, subtags_end, subtags_shorter}
use Rattle.ttl_tokens.proofs.lang_tag.skip_subtags.Goals as goal

pub loop-behind-preserved : goal.loop-behind-preserved
loop-behind-preserved c = (search rules, subtags_more c.loop-behind.invariant.1 c.in-Some.ensures)

pub loop-behind-smaller : goal.loop-behind-smaller
loop-behind-smaller c = subtags_shorter c.in-Some.ensures

pub returns : goal.returns
returns c = subtags_end c.loop-behind.invariant.1 c.in_default.ensures
