use Rattle.std.specs.Prelude.{◌≡◌, All, Some}
use Rattle.std.proofs.Common.{Vec, Option, [], ◌∷◌, refl, sym, ap, ◌∙◌, subst, arith}
use Rattle.std.specs.Option.{option_map}
use Rattle.std.proofs.lemmas.List.Elements.{All-append, All-cons, All-nil}
use Rattle.shx_term.specs.Edit.{IsValidEdit}
use Rattle.std.specs.declared.alloc.Global.{Global}
use Rattle.shx_term.specs.declared.edit.Edit.{Edit}
use Rattle.script_run.specs.Stored.{IsScriptRun, MayGoOn}
use Rattle.shx_term.specs.declared.limits.Limits.{Limits}
use Rattle.script_run.specs.Script.{Step, edit_step}
use Rattle.script_run.specs.Replies.{Replies}
use Rattle.script_run.proofs.ScriptRunLemmas.{full_group}
use Rattle.script_run.proofs.WorkLemmas.{NoneFell-itself}
use Rattle.script_run.proofs.changing.queue.Goals as goal

pub returns-then-len-limits-clause-replies : goal.returns-then-len-limits-clause-replies
returns-then-len-limits-clause-replies c = λ manner s work same is.
    let waits : s.group ≡ Some c.in-Some.waiting.items =
    sym is.group_is ∙ ap (option_map (λ edits. edits.items)) c.in-Some.is in
    let refused = c.refuse_line in
    let full = full_group manner.limits s c.args.edit c.in-Some.waiting.items
    (omega (arith, c.if-len-limits.true, c.len.ensures, ap (λ (l : Limits). l.group) same)) in
    let kept = subst (λ (group : Option (Vec Edit Global)).
    IsScriptRun manner.limits manner.format s (record c.args.script.now { group = group })) c.in-Some.is is in
    subst (λ (step : Step). Replies manner step refused.result refused.new.script work work)
    (sym (ap (edit_step manner.limits s c.args.edit) waits ∙ full))
    (refused.ensures.replies manner s work kept)

pub returns-then-len-limits-clause-moves : goal.returns-then-len-limits-clause-moves
returns-then-len-limits-clause-moves c = λ work.
    let may = subst (λ (group : Option (Vec Edit Global)).
    MayGoOn (record c.args.script.now { group = group })) c.in-Some.is c.requires.goes_on in
    let moved = c.refuse_line.ensures.moves may work in
    record {
      names = moved.names;
      base = moved.base;
      format = moved.format;
      goes_on = moved.goes_on;
      line = moved.line;
      risen = moved.risen;
    }

pub returns-clause-moves : goal.returns-clause-moves
returns-clause-moves c = λ work.
    let may = c.requires.goes_on in
    let edit = c.args.edit in
    let waiting = c.in-Some.waiting.items in
    let valid : All IsValidEdit waiting = rw c.in-Some.is at may.group in
    rw c.said.ensures.counted (record {
      names = refl;
      base = refl;
      format = refl;
      goes_on = record {
        base = may.base;
        group = subst (All IsValidEdit) (sym c.in_ok-push.ensures.items)
            (All-append IsValidEdit waiting (edit ∷ []) valid
            (All-cons IsValidEdit edit [] c.requires.valid (All-nil IsValidEdit)));
        course = may.course;
        staged = may.staged;
      };
      line = refl;
      risen = NoneFell-itself work;
    })
