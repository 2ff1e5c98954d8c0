use Rattle.std.proofs.Common.{◌≡◌, length, ap, sym, ◌∙◌, arith}
use Rattle.std.specs.List.{take_while}
use Rattle.shx_term.specs.NumberForm.{is_digit}
use Rattle.value_space.proofs.MomentFormLemmas.{digits-length, none_is_long, no_year, year_below}
use Rattle.value_space.proofs.MomentFormLemmas.{year_of_four, year_of_more}
use Rattle.value_space.proofs.moment_text.read_year.Goals as goal
use Rattle.value_space.proofs.moment_text.read_year.Goals.{in_default-via-in-Some+else-digits-eq4}
use Rattle.value_space.proofs.moment_text.read_year.Goals.{in_default-via-in_default}

pub overflow_sub-digits : goal.overflow_sub-digits
overflow_sub-digits c =
    omega (arith, digits-length c.args.text.now, ap length c.read_whole-number.ensures.rest)

pub returns-then-digits-lt4 : goal.returns-then-digits-lt4
returns-then-digits-lt4 c =
    no_year c.args.text.now
    (omega (
      arith,
      digits-length c.args.text.now,
      ap length c.read_whole-number.ensures.rest,
      c.if-digits-lt4.true,
    ))

pub overflow_cast-result : goal.overflow_cast-result
overflow_cast-result c =
    let text = c.args.text.now in
    let four : length (take_while is_digit text) ≡ 4 =
    omega (arith, digits-length text, ap length c.read_whole-number.ensures.rest, c.if-digits-eq4.true) in
    omega
    (arith, year_below text c.in-Some.number four (sym c.in-Some.is ∙ c.read_whole-number.ensures.number))

pub returns-in-Some : goal.returns-in-Some
returns-in-Some c =
    let text = c.args.text.now in
    let four : length (take_while is_digit text) ≡ 4 =
    omega (arith, digits-length text, ap length c.read_whole-number.ensures.rest, c.if-digits-eq4.true) in
    year_of_four text c.in-Some.number c.read_whole-number.result.1.now four
    (sym c.in-Some.is ∙ c.read_whole-number.ensures.number) c.read_whole-number.ensures.rest

pub returns-in_default : goal.returns-in_default
returns-in_default c =
    let text = c.args.text.now in
    let all = digits-length text in
    let rest = c.read_whole-number.ensures.rest in
    elim c.in_default.branch [
      | in_default-via-in-Some+else-digits-eq4 w ↦ year_of_more text c.read_whole-number.result.1.now
          (omega (arith, all, ap length rest, c.if-digits-lt4.false, w.if-digits-eq4.false)) rest
      | in_default-via-in_default w ↦ year_of_more text c.read_whole-number.result.1.now
          (none_is_long (take_while is_digit text) (sym w.in_default.is ∙ c.read_whole-number.ensures.number))
          rest
    ]
