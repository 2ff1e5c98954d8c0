use Rattle.std.specs.Str.{chars}
use Rattle.ttl_tokens.proofs.NumberLemmas.{number_digits, fraction_answer, dot_answer}
use Rattle.ttl_tokens.proofs.numbers.number.Goals as goal

pub returns-in-Some : goal.returns-in-Some
returns-in-Some c =
    number_digits c.skip_sign-unsigned.ensures c.in-Some.ensures c.skip_digits.ensures c.behind_digits.ensures

pub returns-in-None-fraction : goal.returns-in-None-fraction
returns-in-None-fraction c =
    dot_answer (λ t. t.0) (λ t. chars t.1.now) c.dot.result c.skip_sign-unsigned.ensures c.in-None.ensures
    c.in-None-fraction.ensures c.dot.ensures

pub returns-in_default : goal.returns-in_default
returns-in_default c =
    fraction_answer (λ t. t.0) (λ t. chars t.1.now) c.fraction.result c.skip_sign-unsigned.ensures
    c.in-None.ensures c.in_default.not-None c.fraction.ensures
