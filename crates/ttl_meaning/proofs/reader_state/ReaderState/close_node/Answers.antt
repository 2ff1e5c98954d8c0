use Rattle.std.proofs.Common.{sym}
use Rattle.ttl_meaning.specs.State.{leave}
use Rattle.ttl_meaning.proofs.ItemLemmas.{item_kept}
use Rattle.ttl_meaning.proofs.reader_state.ReaderState.close_node.Goals as goal

pub returns-then-is_none : goal.returns-then-is_none
returns-then-is_none c = λ pool. item_kept leave _ pool _ _ (sym c.if-is_none.ensures) (c.leave.ensures pool)
