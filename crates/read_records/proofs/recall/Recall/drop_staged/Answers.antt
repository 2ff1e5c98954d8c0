use Rattle.read_records.proofs.RecallLemmas.{KeepsSame-noted}
use Rattle.read_records.proofs.recall.Recall.drop_staged.Goals as goal

pub returns-clause-kept : goal.returns-clause-kept
returns-clause-kept c = rw (← c.self.view_is) (KeepsSame-noted c.drop_staged.ensures.kept)
