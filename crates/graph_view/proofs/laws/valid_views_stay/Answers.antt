use Rattle.graph_view.proofs.ValidLemmas.{IsValidTriple-numbered, IsValidView-entered}
use Rattle.graph_view.proofs.ValidLemmas.{IsValidView-inserted, IsValidView-removed}
use Rattle.graph_view.proofs.ValidLemmas.{IsValidView-exchanged, IsValidView-cut}
use Rattle.graph_view.proofs.laws.valid_views_stay.Goals as goal

pub returns-clause-entered : goal.returns-clause-entered
returns-clause-entered c = IsValidView-entered

pub returns-clause-stated : goal.returns-clause-stated
returns-clause-stated c = IsValidTriple-numbered

pub returns-clause-inserted : goal.returns-clause-inserted
returns-clause-inserted c = IsValidView-inserted

pub returns-clause-removed : goal.returns-clause-removed
returns-clause-removed c = IsValidView-removed

pub returns-clause-exchanged : goal.returns-clause-exchanged
returns-clause-exchanged c = IsValidView-exchanged

pub returns-clause-cut : goal.returns-clause-cut
returns-clause-cut c = IsValidView-cut
