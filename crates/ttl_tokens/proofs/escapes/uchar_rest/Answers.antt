use Rattle.ttl_tokens.proofs.EscapeLemmas.{rest_no_u, rest_u}
use Rattle.ttl_tokens.proofs.CharLemmas.{walk_on}
use Rattle.ttl_tokens.proofs.escapes.uchar_rest.Goals as goal

pub returns-in-Some : goal.returns-in-Some
returns-in-Some c = walk_on _ (rest_u c.in-Some.ensures) c.four_digits.ensures

pub returns-in-None : goal.returns-in-None
returns-in-None c = walk_on _ (rest_no_u c.in-None.ensures) c.long_uchar_rest.ensures
