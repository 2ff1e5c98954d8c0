use Rattle.path_eval.proofs.MeetsLemmas.{path_lists}
use Rattle.path_eval.proofs.PathReadsLemmas.{path_reads_are}
use Rattle.path_eval.proofs.laws.paths_lead_to_what_they_relate.Goals as goal

pub returns-clause-nodes : goal.returns-clause-nodes
returns-clause-nodes c = path_lists

pub returns-clause-reads : goal.returns-clause-reads
returns-clause-reads c = path_reads_are
