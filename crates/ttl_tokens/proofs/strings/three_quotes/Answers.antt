use Rattle.ttl_tokens.proofs.CharLemmas.{walk_on}
use Rattle.ttl_tokens.proofs.FormLemmas.{then_never, then_same}
use Rattle.ttl_tokens.proofs.strings.three_quotes.Goals as goal

pub returns-in_err-behind_one : goal.returns-in_err-behind_one
returns-in_err-behind_one c = rw c.from_residual.ensures (then_never c.in_err-behind_one.ensures)

pub returns : goal.returns
returns c = walk_on _ (then_same c.in_ok-behind_one.ensures) c.two_chars.ensures
