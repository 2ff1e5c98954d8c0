use Rattle.comp_core.specs.Pairs.{same_pair}
use Rattle.record_rows.proofs.OnceLemmas.{none_apart}
use Rattle.record_rows.proofs.tests.recall.loaded.Goals as goal

pub loop-of-init : goal.loop-of-init
loop-of-init c = rw c.new-answers.ensures.items (none_apart same_pair)
