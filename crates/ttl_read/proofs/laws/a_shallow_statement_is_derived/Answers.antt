use Rattle.ttl_read.proofs.NestLemmas.{derived_within}
use Rattle.ttl_read.proofs.laws.a_shallow_statement_is_derived.Goals as goal

pub returns : goal.returns
returns c = λ text limit n x y utf8 shallow t. derived_within text limit utf8 n x y shallow t
