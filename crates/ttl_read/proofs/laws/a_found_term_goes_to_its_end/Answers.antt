use Rattle.ttl_read.proofs.GoesToLemmas.{found_goes}
use Rattle.ttl_read.proofs.laws.a_found_term_goes_to_its_end.Goals as goal

pub returns : goal.returns
returns c = λ text t d term end found. found_goes text t d term end found
