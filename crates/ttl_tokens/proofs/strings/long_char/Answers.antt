use Rattle.ttl_tokens.proofs.CharLemmas.{walk_on}
use Rattle.ttl_tokens.proofs.StringLemmas.{long_escape}
use Rattle.ttl_tokens.proofs.strings.long_char.Goals as goal

pub returns-then-first-eq92 : goal.returns-then-first-eq92
returns-then-first-eq92 c =
    walk_on _ (long_escape c.args.mark c.in_ok-first.ensures c.if-first-eq92.true) c.escape.ensures
