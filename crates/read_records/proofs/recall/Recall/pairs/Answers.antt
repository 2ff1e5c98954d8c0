use Rattle.std.proofs.lemmas.Result.{IfOk-weaker}
use Rattle.read_records.proofs.PairLemmas.{Lists-seen}
use Rattle.read_records.specs.inner.Remembered.{as_remembered}
use Rattle.read_records.proofs.recall.Recall.pairs.Goals as goal

pub returns : goal.returns
returns c =
    rw (← c.self.view_is)
    (IfOk-weaker c.pairs.result _ _ (λ pairs. Lists-seen as_remembered c.self.inside.store pairs.items)
    c.pairs.ensures)
