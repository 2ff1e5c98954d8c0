use Rattle.std.proofs.Common.{sym, ◌∙◌}
use Rattle.script_lines.specs.Forms.{is_subject}
use Rattle.script_lines.proofs.TripleLemmas.{comes_not}
use Rattle.script_lines.proofs.line_form.subject_at.Goals as goal

pub returns-else-is_subject : goal.returns-else-is_subject
returns-else-is_subject c =
    comes_not c.args.line.now c.utf8.line c.args.at is_subject c.in_ok-token.token c.in_ok-token.ensures
    (sym c.is_subject.ensures ∙ c.if-is_subject.false)
