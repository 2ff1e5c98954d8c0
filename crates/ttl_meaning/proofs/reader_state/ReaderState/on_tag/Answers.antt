use Rattle.std.proofs.Common.{drop}
use Rattle.std.proofs.lemmas.Result.{on_ok_weaker}
use Rattle.ttl_tokens.specs.Unescaped.{token_text}
use Rattle.ttl_meaning.specs.Items.{end_string}
use Rattle.ttl_meaning.specs.Terms.{tagged}
use Rattle.ttl_meaning.proofs.ItemLemmas.{item_sound, string_ends}
use Rattle.ttl_meaning.proofs.reader_state.ReaderState.on_tag.Goals as goal

pub returns-clause-does : goal.returns-clause-does
returns-clause-does c =
    let text = token_text c.args.text.now c.args.token.now in
    let taken = c.take_held-lexical.ensures in
    on_ok_weaker _ (item_sound (λ s. end_string (tagged s.held (drop 1 text)) s) _ _ _ _ c.if-is_some.ensures)
    (on_ok_weaker _
    (string_ends (λ held. tagged held (drop 1 text)) _ c.in_ok-literal.literal _ _ _ _ _ _ taken.said taken.at
    (cc (c.in_ok-literal.ensures, c.tag_text.ensures))
    (taken.kept c.args.pool.now))
    c.put_literal.ensures.does)
