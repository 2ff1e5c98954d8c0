use Rattle.std.specs.Option.{is_some, option_copied}
use Rattle.std.proofs.Common.{List, None, Option, Some, ◌≡◌, refl, sym, ap, ◌∙◌, subst, arith}
use Rattle.shx_term.specs.declared.edit.Edit.{Edit}
use Rattle.edit_engine.specs.Nets.{Effect, turned}
use Rattle.edit_history.specs.History.{Past}
use Rattle.script_run.specs.inner.Changing.{made_behind, next_change, way_step}
use Rattle.script_run.specs.Replies.{Replies}
use Rattle.script_run.specs.Script.{Step, past_of, refusal}
use Rattle.script_run.specs.Work.{evaluating}
use Rattle.script_run.proofs.ChangingLemmas.{MayGoOn-moved, Replies-changed, nested_risen, way_grouped}
use Rattle.script_run.proofs.ChangingLemmas.{way_none, way_on}
use Rattle.script_run.proofs.HistoryLemmas.{moved_past}
use Rattle.script_run.proofs.ScriptRunLemmas.{by_group, no_group}
use Rattle.script_run.proofs.changing.undo_or_redo.Goals as goal

pub returns-then-is_some-clause-replies : goal.returns-then-is_some-clause-replies
returns-then-is_some-clause-replies g c = λ manner s is.
    let refused = c.refuse_line in
    let back = c.args.back in
    let work = evaluating c.args.steps.now c.args.nested.now in
    let P = λ (step : Step). Replies manner step refused.result refused.new.script work work in
    by_group c.args.script.now.group s.group is.group_is (sym c.is_some.ensures ∙ c.if-is_some.true)
    (λ (waiting : Option (List Edit)). P (way_step back manner.limits s waiting))
    (λ waiting. subst P (sym (way_grouped back manner.limits s waiting))
    (refused.ensures.replies manner s work is))

pub returns-in_default-clause-replies : goal.returns-in_default-clause-replies
returns-in_default-clause-replies g c = λ manner s is.
    let script = c.args.script.now in
    let refused = c.refuse_line-in_default in
    let back = c.args.back in
    let work = evaluating c.args.steps.now c.args.nested.now in
    let none = no_group script.group s.group is.group_is (sym c.is_some.ensures ∙ c.if-is_some.false) in
    let last : next_change back (past_of manner.limits s) ≡ None =
    ap (next_change back) (sym is.history_is) ∙ sym c.next_net.ensures ∙ ap option_copied c.in_default.is in
    let step = ap (way_step back manner.limits s) none ∙ way_none back manner.limits s last in
    subst (λ (step : Step). Replies manner step refused.result refused.new.script work work) (sym step)
    (subst (λ code. Replies manner (refusal s code None) refused.result refused.new.script work work)
    c.none_next.ensures (refused.ensures.replies manner s work is))

pub move_by-requires : goal.move_by-requires
move_by-requires g c =
    let stays = c.changes_come_alike.ensures.course c.args.script.now.history c.requires.goes_on.course in
    stays.ready c.args.back c.in-Some.net.now (sym c.in-Some.ensures)

pub move_history-requires : goal.move_history-requires
move_history-requires g c = ap is_some (sym c.in-Some.ensures)

pub returns-clause-replies : goal.returns-clause-replies
returns-clause-replies g c = λ manner s is.
    let script = c.args.script.now in
    let back = c.args.back in
    let net = c.in-Some.net.now in
    let engine = c.move_by.new.engine in
    let history = c.move_history.new.history in
    let law = c.changes_come_alike.ensures in
    let stays = law.course script.history c.requires.goes_on.course in
    let none = no_group script.group s.group is.group_is (sym c.is_some.ensures ∙ c.if-is_some.false) in
    let last : next_change back script.history ≡ Some net = sym c.in-Some.ensures in
    let step = ap (way_step back manner.limits s) none
    ∙ way_on back manner.limits s net (ap (next_change back) (sym is.history_is) ∙ last) in
    let alike = law.alike s.graph (turned back net) is.stores (stays.ready back net last).fits in
    let made = ap (λ (p : Past). made_behind back p.cursor) is.history_is in
    let past = moved_past manner.limits s script.history history (made_behind back script.history.cursor)
    is.history_is c.move_history.ensures in
    subst (λ (step : Step). Replies manner step c.said.result c.said.new.script
    (evaluating c.args.steps.now c.args.nested.now) (evaluating c.move_by.new.steps c.move_by.new.nested))
    (sym step)
    (rw (c.said.ensures.reply, c.said.ensures.counted)
    (Replies-changed manner s script is (turned back net) alike engine c.move_by.ensures.plan
    c.in_ok-change.change c.change_answer.result c.change_answer.ensures.changed
    c.change_answer.ensures.unchanged script.group (is.group_is ∙ none) history c.args.steps.now
    c.move_by.new.steps c.args.nested.now c.move_by.new.nested c.in_ok-change.ensures.steps s.changes
    (made_behind back s.made) c.in_ok-change.ensures.made
    (past ∙ ap (λ made. past_of manner.limits (record s { made = made })) made)))

pub returns-clause-moves : goal.returns-clause-moves
returns-clause-moves g c =
    let script = c.args.script.now in
    let back = c.args.back in
    let net = c.in-Some.net.now in
    let history = c.move_history.new.history in
    let may = c.requires.goes_on in
    let stays = c.changes_come_alike.ensures.course script.history may.course in
    let engine = c.move_by.new.engine in
    let came = c.in_ok-change.ensures in
    rw c.said.ensures.counted (record {
      names = refl;
      base = refl;
      format = refl;
      goes_on = MayGoOn-moved script may stays (turned back net) engine c.move_by.ensures.plan
          c.in_ok-change.change script.group may.group history c.args.nested.now c.move_by.new.nested
          (made_behind back script.history.cursor) c.move_history.ensures
          (stays.moved back net engine.graph (sym c.in-Some.ensures) came.made.graph);
      line = refl;
      risen = record {
        evaluated = omega (arith, came.steps);
        nested = nested_risen script.engine engine (turned back net) c.in_ok-change.change c.args.nested.now
            c.move_by.new.nested Effect came.made;
      };
    })

pub returns-then-is_some-clause-moves : goal.returns-then-is_some-clause-moves
returns-then-is_some-clause-moves g c =
    c.refuse_line.ensures.moves c.requires.goes_on (evaluating c.args.steps.now c.args.nested.now)

pub returns-in_default-clause-moves : goal.returns-in_default-clause-moves
returns-in_default-clause-moves g c =
    c.refuse_line-in_default.ensures.moves c.requires.goes_on (evaluating c.args.steps.now c.args.nested.now)
