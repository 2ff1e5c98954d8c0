use Rattle.ttl_tokens.proofs.NumberLemmas.{no_point, fraction_found}
use Rattle.ttl_tokens.proofs.numbers.fraction.Goals as goal

pub returns-in_err-digits : goal.returns-in_err-digits
returns-in_err-digits c = rw c.from_residual.ensures (no_point c.in_err-digits.ensures)

pub returns : goal.returns
returns c =
    fraction_found c.in_ok-digits.ensures c.in_ok-rest.ensures c.skip_digits.ensures c.behind_fraction.ensures
