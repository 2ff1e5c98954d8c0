use Rattle.ttl_tokens.proofs.EscapedLemmas.{one_meaning}
use Rattle.ttl_tokens.proofs.MeaningLemmas.{means_content}
use Rattle.ttl_tokens.proofs.laws.escapes_are_undone.Goals as goal

pub returns-clause-stands : goal.returns-clause-stands
returns-clause-stands c = means_content

pub returns-clause-one : goal.returns-clause-one
returns-clause-one c = one_meaning
