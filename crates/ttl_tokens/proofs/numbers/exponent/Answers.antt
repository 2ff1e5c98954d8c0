use Rattle.ttl_tokens.proofs.NumberLemmas.{exponent_found}
use Rattle.ttl_tokens.proofs.numbers.exponent.Goals as goal

pub returns : goal.returns
returns c =
    exponent_found c.in_ok-letter_e.ensures c.skip_sign-unsigned.ensures c.in_ok-rest.ensures
    c.skip_digits.ensures
