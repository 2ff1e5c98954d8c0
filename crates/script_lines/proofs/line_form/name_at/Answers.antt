use Rattle.std.proofs.Common.{sym, ◌∙◌}
use Rattle.ttl_read.specs.Grammar.{is_string}
use Rattle.script_lines.proofs.NameLemmas.{no_name_end, no_string}
use Rattle.script_lines.proofs.TripleLemmas.{comes_not}
use Rattle.script_lines.proofs.line_form.name_at.Goals.{else-is_string-via-then-is_string+else-ends_at}
use Rattle.script_lines.proofs.line_form.name_at.Goals.{else-is_string-via-else-is_string}
use Rattle.script_lines.proofs.line_form.name_at.Goals as goal

pub returns-else-is_string : goal.returns-else-is_string
returns-else-is_string c = elim c.else-is_string.branch [
  | else-is_string-via-then-is_string+else-ends_at w ↦
      no_name_end c.args.line.now c.utf8.line c.args.at c.in_ok-name.name c.in_ok-name.ensures
      w.ends_at.result w.ends_at.ensures w.if-ends_at.false
  | else-is_string-via-else-is_string w ↦
      no_string c.args.line.now c.utf8.line c.args.at
      (comes_not c.args.line.now c.utf8.line c.args.at is_string c.in_ok-name.name c.in_ok-name.ensures
      (sym c.is_string.ensures ∙ w.if-is_string.false))
]
