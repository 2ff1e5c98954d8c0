use Rattle.read_records.proofs.SeenLemmas.{SameNotes-recorded}
use Rattle.read_records.proofs.records.Records.drop_staged.Goals as goal

pub returns-clause-recorded : goal.returns-clause-recorded
returns-clause-recorded c = rw (← c.self.view_is) (SameNotes-recorded c.drop_staged.ensures.kept)
