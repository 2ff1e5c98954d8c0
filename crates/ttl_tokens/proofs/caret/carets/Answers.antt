use Rattle.ttl_tokens.proofs.CaretLemmas.{carets_found, no_caret, one_caret}
use Rattle.ttl_tokens.proofs.caret.carets.Goals as goal

pub returns-in_err-second : goal.returns-in_err-second
returns-in_err-second c = rw c.from_residual.ensures (no_caret c.in_err-second.ensures)

pub returns-in_err-rest : goal.returns-in_err-rest
returns-in_err-rest c =
    rw c.from_residual-in_err-rest.ensures (one_caret c.in_ok-second.ensures c.in_err-rest.ensures)

pub returns : goal.returns
returns c = carets_found c.in_ok-second.ensures c.in_ok-rest.ensures
