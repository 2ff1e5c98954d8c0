use Rattle.ttl_read.proofs.TokenTermLemmas.{found_at_iri, found_at_label, found_not_wide}
use Rattle.ttl_read.proofs.laws.found_terms_suit_their_tokens.Goals as goal

pub returns : goal.returns
returns c = record {
  iri = λ text t d term end iri found. found_at_iri text t d term end iri found;
  node = λ text t d term end label found. found_at_label text t d term end label found;
  narrow = λ text t d term end found. found_not_wide text t d term end found;
}
