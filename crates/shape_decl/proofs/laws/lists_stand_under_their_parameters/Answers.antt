use Rattle.shape_decl.proofs.UnderLemmas.{lists_stand}
use Rattle.shape_decl.proofs.laws.lists_stand_under_their_parameters.Goals as goal

pub returns : goal.returns
returns c = lists_stand
