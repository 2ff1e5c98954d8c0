use Rattle.ttl_tokens.proofs.CharLemmas.{walk_on}
use Rattle.ttl_tokens.proofs.FormLemmas.{then_same}
use Rattle.ttl_tokens.proofs.escapes.hex_3.Goals as goal

pub returns : goal.returns
returns c = walk_on _ (then_same c.in_ok-behind.ensures) c.hex_2.ensures
