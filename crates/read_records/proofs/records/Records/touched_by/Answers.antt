use Rattle.std.proofs.lemmas.Result.{IfOk-weaker}
use Rattle.read_records.proofs.ReachedLemmas.{Lists-one}
use Rattle.read_records.proofs.records.Records.touched_by.Goals as goal

pub returns : goal.returns
returns c = IfOk-weaker c.touched_by_change.result _ _ (λ found. Lists-one) c.touched_by_change.ensures
