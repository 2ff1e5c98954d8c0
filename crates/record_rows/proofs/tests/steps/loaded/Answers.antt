use Rattle.read_records.specs.Reader.{same_reader}
use Rattle.record_rows.proofs.OnceLemmas.{none_apart}
use Rattle.record_rows.proofs.tests.steps.loaded.Goals as goal

pub loop-of-init : goal.loop-of-init
loop-of-init c = rw c.new-entries.ensures.items (none_apart same_reader)
