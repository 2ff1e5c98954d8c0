use Rattle.ttl_tokens.proofs.NumberLemmas.{fraction_double, fraction_decimal}
use Rattle.ttl_tokens.proofs.numbers.behind_fraction.Goals as goal

pub returns-in-Some : goal.returns-in-Some
returns-in-Some c = fraction_double c.in-Some.ensures

pub returns-in-None : goal.returns-in-None
returns-in-None c = fraction_decimal c.in-None.ensures
