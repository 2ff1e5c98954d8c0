use Rattle.std.proofs.lemmas.Result.{on_err_weaker, on_ok_weaker}
use Rattle.read_records.proofs.SeenLemmas.{SameNotes-recorded, SameStaged-recorded, StagesFor-recorded}
use Rattle.read_records.proofs.records.Records.stage_removal.Goals as goal

pub returns-clause-recorded : goal.returns-clause-recorded
returns-clause-recorded c = rw (← c.self.view_is) (SameNotes-recorded c.stage.ensures.kept)

pub returns-clause-staged : goal.returns-clause-staged
returns-clause-staged c =
    rw (← c.self.view_is) (on_ok_weaker c.stage.result StagesFor-recorded c.stage.ensures.staged)

pub returns-clause-refused : goal.returns-clause-refused
returns-clause-refused c =
    rw (← c.self.view_is) (on_err_weaker c.stage.result SameStaged-recorded c.stage.ensures.refused)
