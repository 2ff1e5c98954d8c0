use Rattle.ttl_tokens.proofs.EscapeLemmas.{no_zero_3, zeros_3}
use Rattle.ttl_tokens.proofs.CharLemmas.{walk_on}
use Rattle.ttl_tokens.proofs.escapes.behind_3_zeros.Goals as goal

pub returns-in-Some : goal.returns-in-Some
returns-in-Some c = walk_on _ (zeros_3 c.in-Some.ensures) c.four_digits.ensures

pub returns-in-None : goal.returns-in-None
returns-in-None c = walk_on _ (no_zero_3 c.in-None.ensures) c.low_plane.ensures
