use Rattle.ttl_tokens.proofs.EscapeLemmas.{no_zero_2, zeros_2}
use Rattle.ttl_tokens.proofs.CharLemmas.{walk_on}
use Rattle.ttl_tokens.proofs.escapes.behind_2_zeros.Goals as goal

pub returns-in-Some : goal.returns-in-Some
returns-in-Some c = walk_on _ (zeros_2 c.in-Some.ensures) c.behind_3_zeros.ensures

pub returns-in-None : goal.returns-in-None
returns-in-None c = walk_on _ (no_zero_2 c.in-None.ensures) c.plane_16.ensures
