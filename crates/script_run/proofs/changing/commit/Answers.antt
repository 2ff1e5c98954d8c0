use Rattle.std.specs.Prelude.{All}
use Rattle.std.proofs.Common.{◌≡◌, Some, None, refl, sym, ap, ◌∙◌, subst, arith}
use Rattle.edit_engine.specs.Applied.{outcome_of}
use Rattle.edit_engine.specs.Edits.{net_of}
use Rattle.script_run.specs.Script.{Step}
use Rattle.script_run.specs.Work.{evaluating}
use Rattle.script_run.specs.Replies.{Replies}
use Rattle.std.specs.Prelude.{IfOk}
use Rattle.std.specs.Option.{option_map}
use Rattle.shx_term.specs.Edit.{IsValidEdit}
use Rattle.script_run.specs.Script.{commit_step}
use Rattle.script_run.proofs.ChangingLemmas.{MayGoOn-applied, MovesOn-refused, Replies-applied}
use Rattle.script_run.proofs.ChangingLemmas.{Replies-refused, edits_are, nested_risen}
use Rattle.script_run.proofs.changing.commit.Goals as goal

pub returns-in_default-clause-replies : goal.returns-in_default-clause-replies
returns-in_default-clause-replies g c = λ manner s is.
    let script = c.args.script.now in
    let refused = c.refuse_line in
    let work = evaluating c.args.steps.now c.args.nested.now in
    let none = sym is.group_is ∙ ap (option_map (λ edits. edits.items)) c.in_default.is in
    subst (λ (step : Step). Replies manner step refused.result refused.new.script work work)
    (sym (ap (commit_step manner.limits s) none)) (refused.ensures.replies manner s work is)

pub returns-in-Ok-clause-replies : goal.returns-in-Ok-clause-replies
returns-in-Ok-clause-replies g c = λ manner s is.
    let script = c.args.script.now in
    let edits = c.in-Some.waiting.items in
    let made = c.make_edits-made in
    let net = net_of script.engine.graph edits in
    let law = c.changes_come_alike.ensures in
    let came = c.in-Ok.ensures in
    let valid : All IsValidEdit edits = rw c.in-Some.is at c.requires.goes_on.group in
    let waits : s.group ≡ Some edits =
    sym is.group_is ∙ ap (option_map (λ edits. edits.items)) c.in-Some.is in
    let step = ap (commit_step manner.limits s) waits
    ∙ edits_are manner.limits s edits net (law.nets s.graph edits is.stores) in
    let alike = law.alike s.graph net is.stores (law.fits edits valid) in
    subst (λ (step : Step). Replies manner step c.said.result c.said.new.script
    (evaluating c.args.steps.now c.args.nested.now) (evaluating made.new.steps made.new.nested)) (sym step)
    (rw (c.said.ensures.reply, c.said.ensures.counted, c.close_group.ensures)
    (Replies-applied manner s script is net alike made.new.engine made.ensures.plan c.in-Ok.change
    c.change_answer.result c.change_answer.ensures.changed c.change_answer.ensures.unchanged None refl
    made.new.history c.args.steps.now made.new.steps c.args.nested.now made.new.nested came.steps
    (rw c.deref.ensures.value at came.entered) came.unchanged (rw c.deref.ensures.value at came.applied)))

pub returns-in-Ok-clause-moves : goal.returns-in-Ok-clause-moves
returns-in-Ok-clause-moves g c =
    let script = c.args.script.now in
    let edits = c.in-Some.waiting.items in
    let made = c.make_edits-made in
    let net = net_of script.engine.graph edits in
    let may = c.requires.goes_on in
    let law = c.changes_come_alike.ensures in
    let came = c.in-Ok.ensures in
    let applied = rw c.deref.ensures.value at came.applied in
    let valid : All IsValidEdit edits = rw c.in-Some.is at may.group in
    rw (c.said.ensures.counted, c.close_group.ensures) (record {
      names = refl;
      base = refl;
      format = refl;
      goes_on = MayGoOn-applied script may (law.course script.history may.course) net made.new.engine
          made.ensures.plan c.in-Ok.change None tt made.new.history c.args.nested.now
          made.new.nested (law.fits edits valid) (rw c.deref.ensures.value at came.entered) came.unchanged
          applied;
      line = refl;
      risen = record {
        evaluated = omega (arith, came.steps);
        nested = nested_risen script.engine made.new.engine net c.in-Ok.change c.args.nested.now
            made.new.nested (outcome_of script.engine net) applied;
      };
    })

pub returns-in-Err-clause-replies : goal.returns-in-Err-clause-replies
returns-in-Err-clause-replies g c = λ manner s is.
    let script = c.args.script.now in
    let edits = c.in-Some.waiting.items in
    let made = c.make_edits-made in
    let refused = c.refuse_edits in
    let net = net_of script.engine.graph edits in
    let law = c.changes_come_alike.ensures in
    let valid : All IsValidEdit edits = rw c.in-Some.is at c.requires.goes_on.group in
    let waits : s.group ≡ Some edits =
    sym is.group_is ∙ ap (option_map (λ edits. edits.items)) c.in-Some.is in
    let step = ap (commit_step manner.limits s) waits
    ∙ edits_are manner.limits s edits net (law.nets s.graph edits is.stores) in
    let alike = law.alike s.graph net is.stores (law.fits edits valid) in
    subst (λ (step : Step). IfOk refused.result (λ reply. Replies manner step reply refused.new.script
    (evaluating c.args.steps.now c.args.nested.now) (evaluating made.new.steps made.new.nested))) (sym step)
    (Replies-refused script net made.new.engine script.group made.new.history c.in-Err.ensures.kept
    c.args.steps.now made.new.steps c.args.nested.now made.new.nested refused.result refused.new.script
    manner s
    is alike is.group_is c.in-Err.fault (rw c.deref.ensures.value at c.in-Err.ensures.refused)
    refused.ensures.memory (refused.ensures.replies manner s))

pub returns-in-Err-clause-moves : goal.returns-in-Err-clause-moves
returns-in-Err-clause-moves g c =
    let script = c.args.script.now in
    let made = c.make_edits-made in
    let refused = c.refuse_edits in
    MovesOn-refused script c.requires.goes_on (net_of script.engine.graph c.deref.result.now) made.new.engine
    made.new.history c.in-Err.ensures.kept c.args.steps.now made.new.steps c.args.nested.now made.new.nested
    refused.result refused.new.script refused.ensures.names refused.ensures.base refused.ensures.format
    refused.ensures.moves c.in-Err.fault c.in-Err.ensures.refused refused.ensures.memory

pub returns-in_default-clause-moves : goal.returns-in_default-clause-moves
returns-in_default-clause-moves g c =
    c.refuse_line.ensures.moves c.requires.goes_on (evaluating c.args.steps.now c.args.nested.now)
