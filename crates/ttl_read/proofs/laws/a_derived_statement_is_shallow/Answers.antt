use Rattle.ttl_read.proofs.NestLemmas.{derived_shallow}
use Rattle.ttl_read.proofs.laws.a_derived_statement_is_shallow.Goals as goal

pub returns : goal.returns
returns c = λ text limit x y utf8 t. derived_shallow text limit utf8 x y t
