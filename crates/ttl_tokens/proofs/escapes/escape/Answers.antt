use Rattle.ttl_tokens.proofs.EscapeLemmas.{escape_escaped, escape_no_backslash, escape_uchar}
use Rattle.ttl_tokens.proofs.CharLemmas.{walk_on}
use Rattle.ttl_tokens.proofs.escapes.escape.Goals as goal

pub returns-in_err-behind : goal.returns-in_err-behind
returns-in_err-behind c = rw c.from_residual.ensures (escape_no_backslash c.in_err-behind.ensures)

pub returns-in-Some : goal.returns-in-Some
returns-in-Some c = escape_escaped c.in_ok-behind.ensures c.in-Some.ensures

pub returns-in-None : goal.returns-in-None
returns-in-None c = walk_on _ (escape_uchar c.in_ok-behind.ensures c.in-None.ensures) c.uchar_rest.ensures
