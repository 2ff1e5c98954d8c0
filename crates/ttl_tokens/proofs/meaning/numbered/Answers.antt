use Rattle.std.proofs.Common.{rules, ◌<◌, arith}
use Rattle.ttl_tokens.proofs.DigitLemmas.{digit_small, few_written, read_digit, read_no_digit}
use Rattle.ttl_tokens.proofs.meaning.numbered.Goals as goal
use Rattle.ttl_tokens.proofs.meaning.numbered.Goals.{in-Some, in_default}

pub overflow_mul-number : goal.overflow_mul-number
overflow_mul-number c =
    let small : c.loop-at.number < 268435456 = few_written c.loop-at.invariant.1 (omega arith) in
    record { fits = omega (arith, small) }

pub overflow_add-number : goal.overflow_add-number
overflow_add-number c =
    let small : c.loop-at.number < 268435456 = few_written c.loop-at.invariant.1 (omega arith) in
    record { fits = omega (arith, small, c.digit_number.ensures, digit_small c.in-Some.digit) }

pub loop-at-preserved : goal.loop-at-preserved
loop-at-preserved c = elim c.match-first_char.branch [
  | in-Some w ↦ (
    search rules,
    rw (w.number-is, w.digit_number.ensures, w.rest-is)
        (read_digit _ _ _ _ _ _ c.loop-at.invariant.1 w.in-Some.ensures),
  )
  | in_default w ↦ (
    search rules,
    rw (w.number-is, w.rest-is) (read_no_digit _ _ _ _ c.loop-at.invariant.1 w.in_default.ensures),
  )
]
