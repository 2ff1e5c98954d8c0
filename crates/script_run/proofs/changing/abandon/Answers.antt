use Rattle.std.specs.Prelude.{not}
use Rattle.std.proofs.Common.{ap, sym, ◌∙◌, subst}
use Rattle.script_run.specs.Script.{Step, abandon_step}
use Rattle.script_run.specs.Replies.{Replies}
use Rattle.script_run.proofs.ScriptRunLemmas.{no_group}
use Rattle.script_run.proofs.changing.abandon.Goals as goal

pub returns-then-is_none-clause-replies : goal.returns-then-is_none-clause-replies
returns-then-is_none-clause-replies c = λ manner s work is.
    let refused = c.refuse_line in
    let none =
    no_group c.args.script.now.group s.group is.group_is (c.is_none.ensures ∙ ap not c.if-is_none.true) in
    subst (λ (step : Step). Replies manner step refused.result refused.new.script work work)
    (sym (ap (abandon_step s) none)) (refused.ensures.replies manner s work is)

pub returns-then-is_none-clause-moves : goal.returns-then-is_none-clause-moves
returns-then-is_none-clause-moves c = c.refuse_line.ensures.moves c.requires.goes_on
