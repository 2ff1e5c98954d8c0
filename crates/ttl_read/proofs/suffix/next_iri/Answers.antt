use Rattle.std.proofs.Common.{◌≡◌, true, true≢false, sym, ◌∙◌}
use Rattle.ttl_tokens.proofs.OneTokenLemmas.{token_or_none}
use Rattle.ttl_read.specs.Grammar.{is_iri}
use Rattle.ttl_read.proofs.FoundLemmas.{other_next}
use Rattle.ttl_read.proofs.suffix.next_iri.Goals as goal

pub returns-else-is_iri : goal.returns-else-is_iri
returns-else-is_iri c =
    other_next c.args.text.now c.args.at (λ k. is_iri k ≡ true) c.in-Ok.token c.utf8.text
    c.in-Ok.ensures.found (λ iri. true≢false (sym iri ∙ sym c.if-is_iri.ensures))

pub returns-in-Err : goal.returns-in-Err
returns-in-Err c = λ other here iri.
    token_or_none c.args.text.now c.args.at c.in-Err.field-0.at other c.utf8.text here c.in-Err.ensures.none
