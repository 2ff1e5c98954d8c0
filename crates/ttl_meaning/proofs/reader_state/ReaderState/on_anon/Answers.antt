use Rattle.std.proofs.lemmas.Result.{on_ok_weaker}
use Rattle.ttl_meaning.specs.Items.{put_new}
use Rattle.ttl_meaning.proofs.ItemLemmas.{item_kept}
use Rattle.ttl_meaning.proofs.reader_state.ReaderState.on_anon.Goals as goal

pub returns-clause-does : goal.returns-clause-does
returns-clause-does c = on_ok_weaker _ (item_kept put_new _ _ _ _ c.if-is_some.ensures) c.put_new.ensures.does
