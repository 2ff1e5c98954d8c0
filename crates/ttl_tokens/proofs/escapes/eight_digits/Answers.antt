use Rattle.ttl_tokens.proofs.EscapeLemmas.{eight_no_zeros, eight_zeros}
use Rattle.ttl_tokens.proofs.CharLemmas.{walk_on}
use Rattle.ttl_tokens.proofs.escapes.eight_digits.Goals as goal

pub returns-in_err-digits : goal.returns-in_err-digits
returns-in_err-digits c = rw c.from_residual.ensures (eight_no_zeros c.in_err-digits.ensures)

pub returns : goal.returns
returns c = walk_on _ (eight_zeros c.in_ok-digits.ensures) c.behind_2_zeros.ensures
