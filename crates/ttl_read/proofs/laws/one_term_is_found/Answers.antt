use Rattle.ttl_read.proofs.OneFoundLemmas.{one_found}
use Rattle.ttl_read.proofs.laws.one_term_is_found.Goals as goal

pub returns : goal.returns
returns c = λ text t d a b utf8 found also. one_found text t d utf8 a b found also
