use Rattle.ttl_tokens.proofs.EscapeLemmas.{below_octal}
use Rattle.ttl_tokens.proofs.CharLemmas.{walk_on}
use Rattle.ttl_tokens.proofs.escapes.below_surrogates.Goals as goal

pub returns-then-first-le55 : goal.returns-then-first-le55
returns-then-first-le55 c =
    walk_on _ (below_octal c.in_ok-first.ensures c.if-first-ge48.true c.if-first-le55.true) c.hex_2.ensures
