use Rattle.read_records.proofs.RecallLemmas.{KeepsRecalled-made}
use Rattle.read_records.proofs.recall.Recall.commit.Goals as goal

pub returns-clause-kept : goal.returns-clause-kept
returns-clause-kept c = rw (← c.self.view_is) (KeepsRecalled-made c.commit.ensures.kept)
