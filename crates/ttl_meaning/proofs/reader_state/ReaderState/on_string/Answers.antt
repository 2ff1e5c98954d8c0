use Rattle.ttl_meaning.specs.Terms.{said}
use Rattle.ttl_meaning.proofs.ItemLemmas.{item_kept, kept_said}
use Rattle.ttl_meaning.proofs.reader_state.ReaderState.on_string.Goals as goal

pub returns : goal.returns
returns c = λ pool.
    let text = said c.args.text.now c.args.token.now in
    let at = c.args.token.now.start in
    item_kept (λ s. record s { held = text; held_at = at }) _ pool _ _ c.if-is_some.ensures
    (kept_said text at c.in_ok-self.field-0 c.args.self.now pool c.in_ok-self.ensures.meaning)
