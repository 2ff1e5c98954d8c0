use Rattle.std.proofs.Common.{sym, ◌∙◌}
use Rattle.read_records.proofs.SeenLemmas.{count_seen}
use Rattle.read_records.specs.inner.Remembered.{as_remembered}
use Rattle.read_records.proofs.recall.Recall.len.Goals as goal

pub returns : goal.returns
returns c =
    rw (← c.self.view_is) (c.count.ensures ∙ sym (count_seen as_remembered c.self.inside.store.kept))
