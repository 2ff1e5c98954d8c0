use Rattle.std.specs.Prelude.{All}
use Rattle.std.proofs.Common.{[], ◌∷◌, refl, sym, ap, ◌∙◌, subst, arith}
use Rattle.edit_engine.specs.Applied.{outcome_of}
use Rattle.edit_engine.specs.Edits.{net_of}
use Rattle.script_run.specs.Script.{Step}
use Rattle.script_run.specs.Work.{evaluating}
use Rattle.script_run.specs.Replies.{Replies}
use Rattle.std.specs.Prelude.{IfOk}
use Rattle.std.proofs.lemmas.List.Elements.{All-cons, All-nil}
use Rattle.shx_term.specs.Edit.{IsValidEdit}
use Rattle.script_run.specs.Script.{edit_step}
use Rattle.script_run.proofs.ChangingLemmas.{MayGoOn-applied, MovesOn-refused, Replies-applied}
use Rattle.script_run.proofs.ChangingLemmas.{Replies-refused, edits_are, nested_risen}
use Rattle.script_run.proofs.ScriptRunLemmas.{no_group}
use Rattle.script_run.proofs.changing.do_edit.Goals as goal

pub returns-then-is_some-clause-replies : goal.returns-then-is_some-clause-replies
returns-then-is_some-clause-replies g c = λ manner s same is.
    c.queue.ensures.replies manner s (evaluating c.args.steps.now c.args.nested.now) same is

pub returns-in-Ok-clause-replies : goal.returns-in-Ok-clause-replies
returns-in-Ok-clause-replies g c = λ manner s same is.
    let script = c.args.script.now in
    let edit = c.args.edit in
    let edits = edit ∷ [] in
    let made = c.make_edits-made in
    let net = net_of script.engine.graph edits in
    let law = c.changes_come_alike.ensures in
    let came = c.in-Ok.ensures in
    let valid : All IsValidEdit edits = All-cons IsValidEdit edit [] c.requires.valid (All-nil IsValidEdit) in
    let none = no_group script.group s.group is.group_is (sym c.is_some.ensures ∙ c.if-is_some.false) in
    let step = ap (edit_step manner.limits s edit) none
    ∙ edits_are manner.limits s edits net (law.nets s.graph edits is.stores) in
    let alike = law.alike s.graph net is.stores (law.fits edits valid) in
    subst (λ (step : Step). Replies manner step c.said.result c.said.new.script
    (evaluating c.args.steps.now c.args.nested.now) (evaluating made.new.steps made.new.nested)) (sym step)
    (rw (c.said.ensures.reply, c.said.ensures.counted)
    (Replies-applied manner s script is net alike made.new.engine made.ensures.plan c.in-Ok.change
    c.change_answer.result c.change_answer.ensures.changed c.change_answer.ensures.unchanged script.group
    (is.group_is ∙ none) made.new.history c.args.steps.now made.new.steps c.args.nested.now made.new.nested
    came.steps (rw c.from_ref.ensures.value at came.entered) came.unchanged
    (rw c.from_ref.ensures.value at came.applied)))

pub returns-in-Ok-clause-moves : goal.returns-in-Ok-clause-moves
returns-in-Ok-clause-moves g c =
    let script = c.args.script.now in
    let edits = c.args.edit ∷ [] in
    let made = c.make_edits-made in
    let net = net_of script.engine.graph edits in
    let may = c.requires.goes_on in
    let law = c.changes_come_alike.ensures in
    let came = c.in-Ok.ensures in
    let applied = rw c.from_ref.ensures.value at came.applied in
    let valid : All IsValidEdit edits =
    All-cons IsValidEdit c.args.edit [] c.requires.valid (All-nil IsValidEdit) in
    rw c.said.ensures.counted (record {
      names = refl;
      base = refl;
      format = refl;
      goes_on = MayGoOn-applied script may (law.course script.history may.course) net made.new.engine
          made.ensures.plan c.in-Ok.change script.group may.group made.new.history c.args.nested.now
          made.new.nested (law.fits edits valid) (rw c.from_ref.ensures.value at came.entered) came.unchanged
          applied;
      line = refl;
      risen = record {
        evaluated = omega (arith, came.steps);
        nested = nested_risen script.engine made.new.engine net c.in-Ok.change c.args.nested.now
            made.new.nested (outcome_of script.engine net) applied;
      };
    })

pub returns-clause-replies : goal.returns-clause-replies
returns-clause-replies g c = λ manner s same is.
    let script = c.args.script.now in
    let edit = c.args.edit in
    let edits = edit ∷ [] in
    let made = c.make_edits-made in
    let refused = c.refuse_edits in
    let net = net_of script.engine.graph edits in
    let law = c.changes_come_alike.ensures in
    let valid : All IsValidEdit edits = All-cons IsValidEdit edit [] c.requires.valid (All-nil IsValidEdit) in
    let none = no_group script.group s.group is.group_is (sym c.is_some.ensures ∙ c.if-is_some.false) in
    let step = ap (edit_step manner.limits s edit) none
    ∙ edits_are manner.limits s edits net (law.nets s.graph edits is.stores) in
    let alike = law.alike s.graph net is.stores (law.fits edits valid) in
    subst (λ (step : Step). IfOk refused.result (λ reply. Replies manner step reply refused.new.script
    (evaluating c.args.steps.now c.args.nested.now) (evaluating made.new.steps made.new.nested))) (sym step)
    (Replies-refused script net made.new.engine script.group made.new.history c.in-Err.ensures.kept
    c.args.steps.now made.new.steps c.args.nested.now made.new.nested refused.result refused.new.script
    manner s
    is alike is.group_is c.in-Err.fault (rw c.from_ref.ensures.value at c.in-Err.ensures.refused)
    refused.ensures.memory (refused.ensures.replies manner s))

pub returns-clause-moves : goal.returns-clause-moves
returns-clause-moves g c =
    let script = c.args.script.now in
    let made = c.make_edits-made in
    let refused = c.refuse_edits in
    MovesOn-refused script c.requires.goes_on (net_of script.engine.graph c.from_ref.result.now)
    made.new.engine made.new.history c.in-Err.ensures.kept c.args.steps.now made.new.steps c.args.nested.now
    made.new.nested refused.result refused.new.script refused.ensures.names refused.ensures.base
    refused.ensures.format refused.ensures.moves c.in-Err.fault c.in-Err.ensures.refused
    refused.ensures.memory

pub returns-then-is_some-clause-moves : goal.returns-then-is_some-clause-moves
returns-then-is_some-clause-moves g c =
    c.queue.ensures.moves (evaluating c.args.steps.now c.args.nested.now)
