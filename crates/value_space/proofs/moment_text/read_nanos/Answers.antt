use Rattle.std.proofs.Common.{length, ap, sym, ◌∙◌, arith}
use Rattle.std.specs.List.{take_while}
use Rattle.shx_term.specs.NumberForm.{is_digit}
use Rattle.value_space.specs.inner.DigitRuns.{behind_digits, narrow_fraction}
use Rattle.value_space.proofs.MomentFormLemmas.{no_nanos, nanos_below, is_nanos}
use Rattle.value_space.proofs.moment_text.read_nanos.Goals as goal

pub returns-then-rest-digits : goal.returns-then-rest-digits
returns-then-rest-digits c =
    let digits = c.without_point-digits.ensures in
    let rest = c.read_fraction-fraction.ensures.rest ∙ ap behind_digits digits in
    no_nanos c.args.text.now (sym c.has_point.ensures ∙ c.if-not-has_point.false)
    (sym (ap length rest) ∙ c.if-rest-digits.true ∙ ap length digits)

pub overflow_cast-result : goal.overflow_cast-result
overflow_cast-result c =
    omega (
      arith,
      nanos_below c.without_point-digits.result.now c.in-Some.nanos
          (sym c.in-Some.is ∙ c.read_fraction-fraction.ensures.fraction),
    )

pub returns-in-Some : goal.returns-in-Some
returns-in-Some c =
    let digits = c.without_point-digits.ensures in
    let rest = c.read_fraction-fraction.ensures.rest ∙ ap behind_digits digits in
    let value = sym c.in-Some.is ∙ c.read_fraction-fraction.ensures.fraction in
    is_nanos c.args.text.now _ _ (sym c.has_point.ensures ∙ c.if-not-has_point.false)
    (value ∙ ap (λ ds. narrow_fraction 9 (take_while is_digit ds)) digits) rest
    (λ same. c.if-rest-digits.false (ap length rest ∙ same ∙ sym (ap length digits)))
    (nanos_below c.without_point-digits.result.now c.in-Some.nanos value)

pub returns-in-None : goal.returns-in-None
returns-in-None c =
    let digits = c.without_point-digits.ensures in
    let rest = c.read_fraction-fraction.ensures.rest ∙ ap behind_digits digits in
    is_nanos c.args.text.now _ _ (sym c.has_point.ensures ∙ c.if-not-has_point.false)
    (sym c.in-None.is ∙ c.read_fraction-fraction.ensures.fraction
    ∙ ap (λ ds. narrow_fraction 9 (take_while is_digit ds)) digits)
    rest
    (λ same. c.if-rest-digits.false (ap length rest ∙ same ∙ sym (ap length digits))) tt
