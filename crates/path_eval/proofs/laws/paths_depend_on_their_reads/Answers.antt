use Rattle.path_eval.proofs.AgreementLemmas.{path_agreement}
use Rattle.path_eval.proofs.laws.paths_depend_on_their_reads.Goals as goal

pub returns : goal.returns
returns c = path_agreement
