use Rattle.std.proofs.lemmas.Result.{on_ok_weaker}
use Rattle.shx_term.specs.Spelling.{xsd_string}
use Rattle.ttl_meaning.specs.Items.{end_string}
use Rattle.ttl_meaning.specs.Terms.{typed}
use Rattle.ttl_meaning.proofs.ItemLemmas.{item_sound, string_ends}
use Rattle.ttl_meaning.proofs.reader_state.ReaderState.plain_string.Goals as goal

pub returns-clause-does : goal.returns-clause-does
returns-clause-does c =
    let taken = c.take_held-lexical.ensures in
    on_ok_weaker _ (item_sound (λ s. end_string (typed s.held xsd_string) s) _ _ _ _ c.if-is_some.ensures)
    (on_ok_weaker _
    (string_ends (λ held. typed held xsd_string) _ c.typed.result _ _ _ _ _ _ taken.said taken.at
    (cc (c.typed.ensures, c.in_ok-datatype.ensures, c.string_datatype.ensures))
    (taken.kept c.args.pool.now))
    c.put_literal.ensures.does)
