use Rattle.shape_eval.specs.Results.{pair_reads}
use Rattle.shape_eval.proofs.EditLemmas.{agree_inserted, agree_removed}
use Rattle.shape_eval.proofs.laws.edits_beside_a_pair.Goals as goal

pub returns-clause-inserted : goal.returns-clause-inserted
returns-clause-inserted c = λ shapes lower g h t known known' plan terms also p inside beside.
    c.results_depend_on_reads.ensures shapes lower g h known known' plan p inside
    (agree_inserted g h t terms (pair_reads shapes g p) beside also)

pub returns-clause-removed : goal.returns-clause-removed
returns-clause-removed c = λ shapes lower g h t known known' plan terms without p inside beside.
    c.results_depend_on_reads.ensures shapes lower g h known known' plan p inside
    (agree_removed g h t terms (pair_reads shapes g p) beside without)
