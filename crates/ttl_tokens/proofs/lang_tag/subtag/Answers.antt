use Rattle.ttl_tokens.proofs.LangTagLemmas.{no_dash, subtag_found}
use Rattle.ttl_tokens.proofs.lang_tag.subtag.Goals as goal

pub returns-in_err-name : goal.returns-in_err-name
returns-in_err-name c = rw c.from_residual.ensures (no_dash c.in_err-name.ensures)

pub returns : goal.returns
returns c = subtag_found c.in_ok-name.ensures c.in_ok-rest.ensures c.skip_letters_and_digits.ensures
