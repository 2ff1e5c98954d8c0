use Rattle.script_lines.proofs.TripleLemmas.{ends_here, ends_nowhere}
use Rattle.script_lines.proofs.line_form.ends_at.Goals as goal

pub returns-in-Ok : goal.returns-in-Ok
returns-in-Ok c =
    ends_here c.args.line.now c.utf8.line c.args.at c.in-Ok.token c.in-Ok.ensures.found c.eq.result
    c.eq.ensures

pub returns-in-Err : goal.returns-in-Err
returns-in-Err c =
    ends_nowhere c.args.line.now c.utf8.line c.args.at c.in-Err.field-0.at c.in-Err.ensures.none
