use Rattle.ttl_tokens.proofs.LangTagLemmas.{no_at_sign, tag_found}
use Rattle.ttl_tokens.proofs.lang_tag.lang_tag.Goals as goal

pub returns-in_err-name : goal.returns-in_err-name
returns-in_err-name c = rw c.from_residual.ensures (no_at_sign c.in_err-name.ensures)

pub returns : goal.returns
returns c =
    tag_found c.in_ok-name.ensures c.in_ok-rest.ensures c.skip_letters.ensures c.skip_subtags.ensures
