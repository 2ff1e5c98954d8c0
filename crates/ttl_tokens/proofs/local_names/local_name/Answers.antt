use Rattle.ttl_tokens.proofs.CharLemmas.{same_longest}
use Rattle.ttl_tokens.proofs.FormLemmas.{then_never, then_same}
use Rattle.ttl_tokens.proofs.local_names.local_name.Goals as goal

pub returns-in-Some : goal.returns-in-Some
returns-in-Some c = same_longest (then_same c.in-Some.ensures) c.skip_local_tail.ensures

pub returns-in-None : goal.returns-in-None
returns-in-None c = then_never c.in-None.ensures
