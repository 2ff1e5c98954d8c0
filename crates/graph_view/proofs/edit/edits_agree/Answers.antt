use Rattle.graph_view.proofs.AgreeLemmas.{Agree-entered, Agree-inserted, Agree-removed}
use Rattle.graph_view.proofs.edit.edits_agree.Goals as goal

pub returns-clause-entered : goal.returns-clause-entered
returns-clause-entered c = λ g h t terms triples. Agree-entered t terms triples

pub returns-clause-inserted : goal.returns-clause-inserted
returns-clause-inserted c = λ g h t terms also. Agree-inserted t terms also

pub returns-clause-removed : goal.returns-clause-removed
returns-clause-removed c = λ g h t terms without. Agree-removed t terms without
