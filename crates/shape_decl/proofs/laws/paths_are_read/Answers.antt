use Rattle.shape_decl.proofs.PathLemmas.{paths_read}
use Rattle.shape_decl.proofs.laws.paths_are_read.Goals as goal

pub returns : goal.returns
returns c = paths_read
