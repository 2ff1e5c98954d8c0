use Rattle.ttl_tokens.proofs.CharLemmas.{walk_on}
use Rattle.ttl_tokens.proofs.StringLemmas.{block_same}
use Rattle.ttl_tokens.proofs.strings.block.Goals as goal

pub returns : goal.returns
returns c =
    walk_on _
    (block_same c.args.mark c.requires c.skip_quote-behind_one.ensures c.skip_quote-behind_two.ensures)
    c.long_char.ensures
