use Rattle.ttl_tokens.proofs.CharLemmas.{walk_on}
use Rattle.ttl_tokens.proofs.FormLemmas.{then_never, then_same}
use Rattle.ttl_tokens.proofs.walk.two_chars.Goals as goal

pub returns-in_err-behind : goal.returns-in_err-behind
returns-in_err-behind c = rw c.from_residual.ensures (then_never c.in_err-behind.ensures)

pub returns : goal.returns
returns c = walk_on _ (then_same c.in_ok-behind.ensures) c.past_char-2.ensures
