use Rattle.std.proofs.Common.{drop}
use Rattle.std.proofs.lemmas.Result.{on_ok_weaker}
use Rattle.ttl_tokens.specs.Unescaped.{token_text}
use Rattle.ttl_meaning.specs.Items.{put_label}
use Rattle.ttl_meaning.proofs.ItemLemmas.{item_kept}
use Rattle.ttl_meaning.proofs.TokenTextLemmas.{label_cut}
use Rattle.ttl_meaning.proofs.reader_state.ReaderState.on_label.Goals as goal

pub range_from-requires : goal.range_from-requires
range_from-requires c = λ _.
    rw c.token_text.ensures
    (label_cut c.args.text.now c.args.token.now c.utf8.text c.requires.given c.requires.kind)

pub returns-clause-does : goal.returns-clause-does
returns-clause-does c =
    let text = token_text c.args.text.now c.args.token.now in
    on_ok_weaker _ (item_kept (put_label (drop 2 text)) _ _ _ _ c.if-is_some.ensures)
    (rw (c.range_from.ensures.value, c.token_text.ensures) at c.put_label.ensures.does)
