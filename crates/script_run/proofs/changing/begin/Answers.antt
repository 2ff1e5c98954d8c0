use Rattle.std.proofs.Common.{List, Option, sym, ◌∙◌}
use Rattle.shx_term.specs.declared.edit.Edit.{Edit}
use Rattle.script_run.specs.Script.{begin_step}
use Rattle.script_run.specs.Replies.{Replies}
use Rattle.script_run.proofs.ScriptRunLemmas.{by_group}
use Rattle.script_run.proofs.changing.begin.Goals as goal

pub returns-then-is_some-clause-replies : goal.returns-then-is_some-clause-replies
returns-then-is_some-clause-replies c = λ manner s work is.
    let refused = c.refuse_line in
    by_group c.args.script.now.group s.group is.group_is (sym c.is_some.ensures ∙ c.if-is_some.true)
    (λ (waiting : Option (List Edit)).
    Replies manner (begin_step s waiting) refused.result refused.new.script work work)
    (λ waiting. refused.ensures.replies manner s work is)

pub returns-then-is_some-clause-moves : goal.returns-then-is_some-clause-moves
returns-then-is_some-clause-moves c = c.refuse_line.ensures.moves c.requires.goes_on
