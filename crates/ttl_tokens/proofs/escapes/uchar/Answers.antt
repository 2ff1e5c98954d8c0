use Rattle.ttl_tokens.proofs.EscapeLemmas.{uchar_backslash, uchar_no_backslash}
use Rattle.ttl_tokens.proofs.CharLemmas.{walk_on}
use Rattle.ttl_tokens.proofs.escapes.uchar.Goals as goal

pub returns-in_err-behind : goal.returns-in_err-behind
returns-in_err-behind c = rw c.from_residual.ensures (uchar_no_backslash c.in_err-behind.ensures)

pub returns : goal.returns
returns c = walk_on _ (uchar_backslash c.in_ok-behind.ensures) c.uchar_rest.ensures
