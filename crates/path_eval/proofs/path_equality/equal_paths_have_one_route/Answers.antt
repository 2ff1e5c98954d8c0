use Rattle.path_eval.proofs.SameRouteLemmas.{same_path_exact}
use Rattle.path_eval.proofs.path_equality.equal_paths_have_one_route.Goals as goal

pub returns : goal.returns
returns c = same_path_exact
