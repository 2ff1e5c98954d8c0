use Rattle.std.proofs.lemmas.Result.{on_err_weaker, on_ok_weaker}
use Rattle.read_records.proofs.RecallLemmas.{KeepsSame-noted, StagesAnswer-noted, StagesSame-noted}
use Rattle.read_records.proofs.recall.Recall.stage.Goals as goal

pub returns-clause-kept : goal.returns-clause-kept
returns-clause-kept c = rw (← c.self.view_is) (KeepsSame-noted c.stage.ensures.kept)

pub returns-clause-staged : goal.returns-clause-staged
returns-clause-staged c =
    rw (← c.self.view_is)
    (on_ok_weaker c.stage.result (StagesAnswer-noted c.noted_of-noted.ensures) c.stage.ensures.staged)

pub returns-clause-refused : goal.returns-clause-refused
returns-clause-refused c =
    rw (← c.self.view_is) (on_err_weaker c.stage.result StagesSame-noted c.stage.ensures.refused)
