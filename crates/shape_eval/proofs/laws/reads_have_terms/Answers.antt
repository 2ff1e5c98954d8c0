use Rattle.shape_eval.proofs.KnownKeyLemmas.{pair_reads_known, target_reads_known}
use Rattle.shape_eval.proofs.laws.reads_have_terms.Goals as goal

pub returns-clause-pairs : goal.returns-clause-pairs
returns-clause-pairs c = pair_reads_known

pub returns-clause-targets : goal.returns-clause-targets
returns-clause-targets c = target_reads_known
