use Rattle.std.proofs.lemmas.Result.{on_ok_weaker}
use Rattle.ttl_tokens.specs.Unescaped.{token_text}
use Rattle.ttl_meaning.specs.Items.{put_literal}
use Rattle.ttl_meaning.specs.Terms.{datatype_of, typed}
use Rattle.ttl_meaning.proofs.ItemLemmas.{item_sound}
use Rattle.ttl_meaning.proofs.reader_state.ReaderState.on_literal.Goals as goal

pub returns-clause-does : goal.returns-clause-does
returns-clause-does c =
    let token = c.args.token.now in
    let literal = typed (token_text c.args.text.now token) (datatype_of token.kind) in
    on_ok_weaker _ (item_sound (put_literal token.start literal) _ _ _ _ c.if-is_some.ensures)
    (rw c.in_ok-literal.ensures at c.put_literal.ensures.does)
