use Rattle.read_records.proofs.SeenLemmas.{MakesStaged-recorded}
use Rattle.read_records.proofs.records.Records.commit.Goals as goal

pub returns-clause-recorded : goal.returns-clause-recorded
returns-clause-recorded c = rw (← c.self.view_is) (MakesStaged-recorded c.commit.ensures.kept)
