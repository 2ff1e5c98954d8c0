use Rattle.shape_decl.proofs.ListLemmas.{lists_read}
use Rattle.shape_decl.proofs.laws.lists_are_read.Goals as goal

pub returns : goal.returns
returns c = lists_read
