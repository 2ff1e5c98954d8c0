use Rattle.comp_core.proofs.LawLemmas.{asks_none}
use Rattle.qualified_shapes.proofs.ClosedLemmas.{closed_agrees}
use Rattle.qualified_shapes.proofs.closed.ClosedComponent.laws.Goals as goal

pub returns-clause-agreement : goal.returns-clause-agreement
returns-clause-agreement c = closed_agrees c.look_ups_agree.ensures.by_subject

pub returns-clause-asks_values : goal.returns-clause-asks_values
returns-clause-asks_values c = asks_none
