use Rattle.std.proofs.Common.{ap, Err, Ok, ◌≤◌, length, arith}
use Rattle.std.proofs.lemmas.Result.{IfOk-weaker, IfErr-weaker}
use Rattle.script_lines.specs.Lines.{TooLong, NotUtf8}
use Rattle.script_lines.proofs.LineLemmas.{asked_line, no_form_line}
use Rattle.script_lines.proofs.line.read_line.Goals as goal

pub returns-then-line-limits-clause-refused : goal.returns-then-line-limits-clause-refused
returns-then-line-limits-clause-refused c = λ other.
    TooLong (omega arith) (ap Err c.of_line.ensures)

pub returns-in_default-clause-refused : goal.returns-in_default-clause-refused
returns-in_default-clause-refused c = λ other.
    NotUtf8 (omega arith) c.in_default.ensures.cases.0 (ap Err c.of_line-in_default.ensures)

pub returns-in-Some-clause-command : goal.returns-in-Some-clause-command
returns-in-Some-clause-command c =
    let le : length c.args.line.now ≤ c.args.limits.now.line = omega arith in
    IfOk-weaker c.command_of.result _ _
    (λ command asked. asked_line c.args.limits.now c.args.document.now c.args.line.now c.in-Ok.text.now
    c.in-Ok.ensures.cases.0 le c.in-Ok.ensures.cases.1 c.in-Some.form c.in-Some.ensures (Ok command) asked)
    c.command_of.ensures.command

pub returns-in-Some-clause-refused : goal.returns-in-Some-clause-refused
returns-in-Some-clause-refused c =
    let le : length c.args.line.now ≤ c.args.limits.now.line = omega arith in
    IfErr-weaker c.command_of.result _ _
    (λ fault asked other. asked_line c.args.limits.now c.args.document.now c.args.line.now c.in-Ok.text.now
    c.in-Ok.ensures.cases.0 le c.in-Ok.ensures.cases.1 c.in-Some.form c.in-Some.ensures (Err fault)
    (asked other))
    c.command_of.ensures.refused

pub returns-in-None-clause-refused : goal.returns-in-None-clause-refused
returns-in-None-clause-refused c = λ other.
    no_form_line c.args.limits.now c.args.document.now c.args.line.now c.in-Ok.text.now
    c.in-Ok.ensures.cases.0 (omega arith) c.in-Ok.ensures.cases.1 c.in-None.ensures c.of_line-in-None.result
    c.of_line-in-None.ensures
