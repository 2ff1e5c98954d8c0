use Rattle.ttl_read.proofs.GoesToLemmas.{one_end}
use Rattle.ttl_read.proofs.laws.a_term_goes_to_one_end.Goals as goal

pub returns : goal.returns
returns c = λ text t a b utf8 goes also. one_end text t utf8 a b goes also
