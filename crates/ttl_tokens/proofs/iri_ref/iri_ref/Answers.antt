use Rattle.ttl_tokens.proofs.IriRefLemmas.{iri_found, iri_missing}
use Rattle.ttl_tokens.proofs.iri_ref.iri_ref.Goals as goal

pub returns-in-Some : goal.returns-in-Some
returns-in-Some c = iri_found c.in-Some.ensures

pub returns-in-None : goal.returns-in-None
returns-in-None c = iri_missing c.in-None.ensures
