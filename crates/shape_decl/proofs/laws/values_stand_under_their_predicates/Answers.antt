use Rattle.shape_decl.proofs.UnderLemmas.{paths_read, values_stand}
use Rattle.shape_decl.proofs.laws.values_stand_under_their_predicates.Goals as goal

pub returns-clause-values : goal.returns-clause-values
returns-clause-values c = values_stand

pub returns-clause-paths : goal.returns-clause-paths
returns-clause-paths c = paths_read
