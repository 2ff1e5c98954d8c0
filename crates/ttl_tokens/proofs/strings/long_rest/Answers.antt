use Rattle.ttl_tokens.proofs.CharLemmas.{walk_on}
use Rattle.ttl_tokens.proofs.StringLemmas.{long_end}
use Rattle.ttl_tokens.proofs.strings.long_rest.Goals as goal

pub returns : goal.returns
returns c = walk_on _ (long_end c.args.mark c.requires c.skip_blocks-behind.ensures) c.three_quotes.ensures
