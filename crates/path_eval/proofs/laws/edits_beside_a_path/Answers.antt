use Rattle.path_eval.proofs.AgreementLemmas.{path_inserted, path_removed}
use Rattle.path_eval.proofs.laws.edits_beside_a_path.Goals as goal

pub returns-clause-inserted : goal.returns-clause-inserted
returns-clause-inserted c = λ g h t known known' terms also d route x inside beside.
    path_inserted g h known known' t terms d route x inside beside also

pub returns-clause-removed : goal.returns-clause-removed
returns-clause-removed c = λ g h t known known' terms without d route x inside beside.
    path_removed g h known known' t terms d route x inside beside without
