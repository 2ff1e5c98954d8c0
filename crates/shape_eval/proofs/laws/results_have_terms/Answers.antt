use Rattle.shape_eval.proofs.KnownRowLemmas.{results_known}
use Rattle.shape_eval.proofs.laws.results_have_terms.Goals as goal

pub returns : goal.returns
returns c = results_known
