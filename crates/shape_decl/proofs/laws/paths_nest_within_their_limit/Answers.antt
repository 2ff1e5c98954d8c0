use Rattle.shape_decl.proofs.NestingLemmas.{nests_within}
use Rattle.shape_decl.proofs.laws.paths_nest_within_their_limit.Goals as goal

pub returns : goal.returns
returns c = nests_within
