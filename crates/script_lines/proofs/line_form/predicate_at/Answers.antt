use Rattle.std.proofs.Common.{sym, ◌∙◌}
use Rattle.ttl_read.specs.Grammar.{begins_verb}
use Rattle.script_lines.proofs.TripleLemmas.{comes_not}
use Rattle.script_lines.proofs.line_form.predicate_at.Goals as goal

pub returns-else-begins_verb : goal.returns-else-begins_verb
returns-else-begins_verb c =
    comes_not c.args.line.now c.utf8.line c.args.at begins_verb c.in_ok-token.token c.in_ok-token.ensures
    (sym c.begins_verb.ensures ∙ c.if-begins_verb.false)
