use Rattle.text_output.specs.inner.AddedLaws.{Added-then}
use Rattle.text_output.proofs.writer.Writer.add.Goals as goal

pub returns-then-text-le-ROOM : goal.returns-then-text-le-ROOM
returns-then-text-le-ROOM g c = Added-then c.flush.ensures.added c.queue-then-text-le-ROOM.ensures

pub returns : goal.returns
returns g c = Added-then c.flush.ensures.added c.put.ensures
