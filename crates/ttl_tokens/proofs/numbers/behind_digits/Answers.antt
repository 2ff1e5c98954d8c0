use Rattle.ttl_tokens.proofs.NumberLemmas.{digits_fraction, digits_double, digits_integer}
use Rattle.ttl_tokens.proofs.numbers.behind_digits.Goals as goal

pub returns-in-Some : goal.returns-in-Some
returns-in-Some c = digits_fraction c.in-Some.ensures

pub returns-in-Some-exponent : goal.returns-in-Some-exponent
returns-in-Some-exponent c = digits_double c.in-None.ensures c.skip_point.ensures c.in-Some-exponent.ensures

pub returns-in-None-exponent : goal.returns-in-None-exponent
returns-in-None-exponent c = digits_integer c.in-None.ensures c.skip_point.ensures c.in-None-exponent.ensures
