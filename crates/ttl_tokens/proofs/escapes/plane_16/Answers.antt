use Rattle.ttl_tokens.proofs.CharLemmas.{walk_on}
use Rattle.ttl_tokens.proofs.FormLemmas.{then_never, then_same}
use Rattle.ttl_tokens.proofs.escapes.plane_16.Goals as goal

pub returns-in_err-digits : goal.returns-in_err-digits
returns-in_err-digits c = rw c.from_residual.ensures (then_never c.in_err-digits.ensures)

pub returns : goal.returns
returns c = walk_on _ (then_same c.in_ok-digits.ensures) c.hex_4.ensures
