use Rattle.ttl_tokens.proofs.CharLemmas.{same_longest}
use Rattle.ttl_tokens.proofs.FormLemmas.{then_same}
use Rattle.ttl_tokens.proofs.names.prefix.Goals as goal

pub returns-in-Some : goal.returns-in-Some
returns-in-Some c = same_longest (then_same c.in-Some.ensures) c.skip_name_tail.ensures
