use Rattle.shape_decl.proofs.NumberLemmas.{numbers_known}
use Rattle.shape_decl.proofs.laws.declared_numbers_have_terms.Goals as goal

pub returns : goal.returns
returns c = numbers_known
