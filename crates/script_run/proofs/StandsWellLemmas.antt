-- A script stands well behind each line.
use Rattle.std.specs.Prelude.{◌≡◌, ℕ, ◌+◌, ◌-◌, ◌≤◌, All, Bool, true, false, IfOk, IfSome, List, []}
use Rattle.std.specs.Prelude.{◌∷◌, ◌++◌, None, Option, Some, Result, Ok, Err, if◌then◌else◌, length}
use Rattle.std.specs.Prelude.{drop, map, nat_le, nat_lt, reverse, take}
use Rattle.std.specs.List.{IsDistinct}
use Rattle.std.proofs.Common.{refl, sym, subst, arith}
use Rattle.std.proofs.lemmas.Bool.{ltb-false}
use Rattle.std.proofs.lemmas.List.Elements.{All-cons, All-head, All-nil, All-push, All-tail}
use Rattle.std.proofs.lemmas.Map.Keys.{IsDistinct-push}
use Rattle.std.proofs.lemmas.Option.{slice_get_within}
use Rattle.shx_term.specs.declared.edit.Edit.{Edit}
use Rattle.shx_term.specs.declared.fault_codes.TheConstants.{GROUP_OPEN, GROUP_TOO_LONG, NO_GROUP}
use Rattle.shx_term.specs.declared.fault_codes.TheConstants.{GRAPH_TERMS, GRAPH_TRIPLES, NOTHING_TO_REDO}
use Rattle.shx_term.specs.declared.fault_codes.TheConstants.{NOTHING_TO_UNDO, NO_PAIR, TEXT_TOO_LONG}
use Rattle.shx_term.specs.declared.limits.Limits.{Limits}
use Rattle.shx_term.specs.declared.term.Term.{Term}
use Rattle.shx_term.specs.Edit.{IsValidEdit}
use Rattle.shx_term.specs.Pool.{is_held, with_term, with_terms}
use Rattle.shx_term.specs.TermOrder.{same_term}
use Rattle.shx_term.specs.TripleTerms.{terms_of}
use Rattle.shx_term.specs.ValidTriples.{IsValidTermTriple}
use Rattle.shx_term.specs.inner.TermOrderLaws.{same_term_equiv}
use Rattle.shx_term.proofs.HeldLemmas.{with_terms_grow}
use Rattle.shx_term.proofs.SetLemmas.{SameMembers-itself}
use Rattle.edit_history.specs.declared.net.Net.{Net}
use Rattle.edit_history.specs.History.{history_after, redo_change, undo_change}
use Rattle.graph_view.specs.Graph.{Graph}
use Rattle.graph_view.specs.SameGraph.{SameGraph}
use Rattle.graph_view.specs.Valid.{IsValidView}
use Rattle.graph_view.proofs.ExchangeLemmas.{length-exchanged, length-removed}
use Rattle.comp_core.specs.declared.pair.Pair.{Pair}
use Rattle.shape_eval.specs.Plan.{Planned}
use Rattle.edit_engine.specs.Course.{CanFollow, IsCourse, IsWhole}
use Rattle.edit_engine.specs.Edits.{net_of}
use Rattle.edit_engine.specs.NamedPairs.{pair_in}
use Rattle.edit_engine.specs.Nets.{Effect, IsNetOn, NoEffect, Outcome, PastTerms, PastTriples, added_to}
use Rattle.edit_engine.specs.Nets.{count_after, graph_after, is_no_change, outcome, removed_from, terms_after}
use Rattle.edit_engine.specs.Nets.{turned}
use Rattle.edit_engine.specs.Swapped.{kept_over}
use Rattle.edit_engine.proofs.CourseLemmas.{course_back, course_forth, course_made, course_redone}
use Rattle.edit_engine.proofs.CourseLemmas.{course_undone}
use Rattle.edit_engine.proofs.EffectLemmas.{IsNetOn-edits}
use Rattle.edit_engine.proofs.HeldTripleLemmas.{AreAllHeld-entered, length-numbered_all}
use Rattle.edit_engine.proofs.SoundLemmas.{CanFollow-over, IsSound, IsSound-after, IsSound-valid}
use Rattle.edit_engine.proofs.SoundLemmas.{IsSound-whole, entered, entered_patch, removed_terms_held}
use Rattle.edit_engine.proofs.ValidEditLemmas.{narrow_terms, valid_after, valid_entered}
use Rattle.shape_text.specs.TextReadings.{Faulty, Long, States, TextReading}
use Rattle.shape_text.specs.Verdict.{Obstacle, breaks, is_refused, misspells, obstacle_code, reaches_far}
use Rattle.shape_text.specs.Verdict.{recurs}
use Rattle.ttl_meaning.specs.State.{State}
use Rattle.script_lines.specs.declared.command.Command.{Command}
use Rattle.script_lines.specs.declared.command.Command.TheVariants.{Edit as edits, Report, Count, Begin}
use Rattle.script_lines.specs.declared.command.Command.TheVariants.{Commit, Abandon, Undo, Redo, Slice}
use Rattle.script_lines.specs.declared.command.Command.TheVariants.{Nothing, Shapes}
use Rattle.script_lines.specs.declared.fault.LineFault.{LineFault}
use Rattle.script_lines.specs.declared.fault.LineFault.TheVariants.{Line, Memory}
use Rattle.script_lines.specs.Lines.{IsValidCommand}
use Rattle.report_write.specs.declared.answer.Answer.TheVariants.{Queued}
use Rattle.script_run.specs.Load.{Judgement, Load, StatesValid, refuses, takes, unjudged}
use Rattle.script_run.specs.Manner.{Manner}
use Rattle.script_run.specs.Script.{abandon_step, answers, begin_step, beside_text, change_step, changed}
use Rattle.script_run.specs.Script.{command_step, commit_step, edit_step, is_cut, is_silent, judged_step}
use Rattle.script_run.specs.Script.{load_step, make_again, obstacle_step, past_of, reading_step, redo_step}
use Rattle.script_run.specs.Script.{refusal, script_step, serve_lines, shapes_step, slice_step, stays}
use Rattle.script_run.specs.Script.{take_back, text_step, undo_step}
use Rattle.script_run.specs.ScriptState.{ScriptState, start_state, with_loads}
use Rattle.script_run.specs.Undone.{AreValidLines, StandsWell}

pub same_itself : (g : Graph) → SameGraph g g
same_itself g = record { terms = refl; triples = SameMembers-itself g.triples; count = refl }

-- ---- whole graphs

once_entered : (terms ts : List Term) → IsDistinct same_term terms
    → IsDistinct same_term (with_terms terms ts)
once_entered terms [] once = once
once_entered terms (t ∷ ts) once = once_entered (with_term terms t) ts (one (is_held terms t) refl)
  where
    one : (b : Bool) → is_held terms t ≡ b → IsDistinct same_term (if b then terms else terms ++ t ∷ [])
    one true held = once
    one false absent = IsDistinct-push same_term_equiv terms t once absent

count_is : (g : Graph) (net : Net) → IsSound g → IsNetOn g net
    → length (graph_after g net).triples ≡ count_after g net
count_is g net sound fits =
    let patch = entered_patch g net sound fits in
    let all = length-exchanged (entered g net) (added_to g net) (removed_from g net) patch sound.once in
    let fewer = length-removed (entered g net) (added_to g net) (removed_from g net) patch sound.once in
    let new = length-numbered_all (terms_after g net) net.added (AreAllHeld-entered g.terms net.added) in
    let old = length-numbered_all g.terms net.removed (removed_terms_held g net fits) in
    omega (arith, all, fewer, new, old)

-- a change that may be made and leaves few enough triples leaves a whole graph
IsWhole-after : (most : ℕ) (g : Graph) (net : Net) → IsWhole most g → IsNetOn g net
    → count_after g net ≤ most → IsWhole most (graph_after g net)
IsWhole-after most g net whole fits few =
    let sound = IsSound-whole most g whole in
    record {
      valid = valid_after g net whole.valid fits;
      terms = once_entered g.terms (terms_of net.added) whole.terms;
      triples = (IsSound-after g net sound fits).once;
      few = subst (λ n. n ≤ most) (sym (count_is g net sound fits)) few;
    }

effect_is : (most_triples most_terms : ℕ) (g : Graph) (net : Net)
    → outcome most_triples most_terms g net ≡ Effect
    → (is_no_change net ≡ false) × (count_after g net ≤ most_triples)
effect_is most_triples most_terms g net e =
    by (is_no_change net) refl (nat_lt most_triples (count_after g net)) refl e
  where
    by : (a : Bool) → is_no_change net ≡ a → (b : Bool) → nat_lt most_triples (count_after g net) ≡ b
        → (if a then NoEffect else (if b then PastTriples
        else (if nat_lt most_terms (length (terms_after g net)) then PastTerms else Effect))) ≡ Effect
        → (is_no_change net ≡ false) × (count_after g net ≤ most_triples)
    by true none b few e = absurd (cc)
    by false some true many e = absurd (cc)
    by false some false few e = (some, ltb-false most_triples (count_after g net) few)

-- ---- steps

module _ (limits : Limits) (s : ScriptState) (well : StandsWell limits s) where
  -- the graph and the changes stay
  Stands-same : (group : Option (List Edit)) (line : ℕ) (refused : Bool) → IfSome group (All IsValidEdit)
      → StandsWell limits (record s { group = group; line = line; refused = refused })
  Stands-same group line refused fit =
      record {
        graph = well.graph;
        group = fit;
        course = well.course;
        within = well.within;
        loads = well.loads;
      }

  Stands-cut : StandsWell limits (is_cut s).state
  Stands-cut = record {
    graph = well.graph;
    group = well.group;
    course = well.course;
    within = well.within;
    loads = well.loads;
  }

  Stands-refused : (code : ℕ) (at : Option ℕ) → StandsWell limits (refusal s code at).state
  Stands-refused code at = Stands-same s.group (s.line + 1) true well.group

  Stands-stays : (group : Option (List Edit)) → IfSome group (All IsValidEdit)
      → StandsWell limits (record s { group = group; line = s.line + 1 })
  Stands-stays group fit = Stands-same group (s.line + 1) s.refused fit

  Stands-changed : (net : Net) (changes : List Net) (made : ℕ) → IsNetOn s.graph net
      → count_after s.graph net ≤ limits.triples
      → IsCourse limits.triples (graph_after s.graph net) changes made → made ≤ length changes
      → StandsWell limits (changed s net changes made).state
  Stands-changed net changes made fits few course within = record {
    graph = IsWhole-after limits.triples s.graph net well.graph fits few;
    group = tt;
    course = course;
    within = within;
    loads = well.loads;
  }

  pub Stands-change : (net : Net) → IsNetOn s.graph net → (o : Outcome)
      → outcome limits.triples limits.terms s.graph net ≡ o
      → StandsWell limits (change_step limits s net o).state
  Stands-change net fits NoEffect is = Stands-stays None tt
  Stands-change net fits PastTriples is = Stands-refused GRAPH_TRIPLES None
  Stands-change net fits PastTerms is = Stands-refused GRAPH_TERMS None
  Stands-change net fits Effect is =
      let past = past_of limits s in
      let new = history_after past net in
      let effect = effect_is limits.triples limits.terms s.graph net is in
      Stands-changed net new (length new) fits effect.1
      (course_made limits.triples s.graph (graph_after s.graph net) past net well.graph well.course fits
      effect.0 (same_itself (graph_after s.graph net))) (omega arith)

  Stands-edits : (all : List Edit) → All IsValidEdit all
      → StandsWell limits (change_step limits s (net_of s.graph all)
      (outcome limits.triples limits.terms s.graph (net_of s.graph all))).state
  Stands-edits all fit =
      let net = net_of s.graph all in
      Stands-change net (IsNetOn-edits s.graph all fit) (outcome limits.triples limits.terms s.graph net) refl

  -- what waits in the group is valid
  waiting_valid : (waiting : List Edit) → s.group ≡ Some waiting → All IsValidEdit waiting
  waiting_valid waiting is = subst (λ group. IfSome group (All IsValidEdit)) is well.group

  Stands-edit : (edit : Edit) → IsValidEdit edit → (group : Option (List Edit)) → s.group ≡ group
      → StandsWell limits (edit_step limits s edit group).state
  Stands-edit edit fit None is =
      Stands-edits (edit ∷ []) (All-cons IsValidEdit edit [] fit (All-nil IsValidEdit))
  Stands-edit edit fit (Some waiting) is =
      let more = waiting ++ edit ∷ [] in
      elim (nat_le limits.group (length waiting)) as
      (λ b. StandsWell limits (if b then refusal s GROUP_TOO_LONG None
      else stays (record s { group = Some more }) (answers Queued ∷ [])).state) [
        | true ↦ Stands-refused GROUP_TOO_LONG None
        | false ↦ Stands-stays (Some more) (All-push IsValidEdit waiting edit (waiting_valid waiting is) fit)
      ]

  Stands-begin : (group : Option (List Edit)) → StandsWell limits (begin_step s group).state
  Stands-begin None = Stands-stays (Some []) (All-nil IsValidEdit)
  Stands-begin (Some waiting) = Stands-refused GROUP_OPEN None

  Stands-commit : (group : Option (List Edit)) → s.group ≡ group
      → StandsWell limits (commit_step limits s group).state
  Stands-commit None is = Stands-refused NO_GROUP None
  Stands-commit (Some waiting) is = Stands-edits waiting (waiting_valid waiting is)

  Stands-abandon : (group : Option (List Edit)) → StandsWell limits (abandon_step s group).state
  Stands-abandon None = Stands-refused NO_GROUP None
  Stands-abandon (Some waiting) = Stands-stays None tt

  pub Stands-back : (found : Option Net) → undo_change (past_of limits s) ≡ found
      → StandsWell limits (take_back s found).state
  Stands-back None is = Stands-refused NOTHING_TO_UNDO None
  Stands-back (Some net) is =
      let past = past_of limits s in
      let most = limits.triples in
      let back = turned true net in
      let ready = course_back most s.graph past net well.course is in
      Stands-changed back s.changes (s.made - 1) ready.fits ready.few
      (course_undone most s.graph (graph_after s.graph back) past net well.graph well.course is
      (same_itself (graph_after s.graph back))) (omega (arith, well.within))

  pub Stands-again : (found : Option Net) → redo_change (past_of limits s) ≡ found
      → StandsWell limits (make_again s found).state
  Stands-again None is = Stands-refused NOTHING_TO_REDO None
  Stands-again (Some net) is =
      let past = past_of limits s in
      let most = limits.triples in
      let ready = course_forth most s.graph past net well.course is in
      Stands-changed net s.changes (s.made + 1) ready.fits ready.few
      (course_redone most s.graph (graph_after s.graph net) past net well.graph well.course is
      (same_itself (graph_after s.graph net)))
      (omega (arith, slice_get_within s.changes s.made net is))

  Stands-undo : (group : Option (List Edit)) → StandsWell limits (undo_step limits s group).state
  Stands-undo None = Stands-back (undo_change (past_of limits s)) refl
  Stands-undo (Some waiting) = Stands-refused GROUP_OPEN None

  Stands-redo : (group : Option (List Edit)) → StandsWell limits (redo_step limits s group).state
  Stands-redo None = Stands-again (redo_change (past_of limits s)) refl
  Stands-redo (Some waiting) = Stands-refused GROUP_OPEN None

  Stands-slice : (found : Option Pair) → StandsWell limits (slice_step s found).state
  Stands-slice None = Stands-refused NO_PAIR None
  Stands-slice (Some p) = Stands-stays s.group well.group

  -- the terms of a text stand behind those of the graph
  module _ (end : State) (valid : All IsValidTermTriple end.triples) where
    abbrev beside : Graph
    beside = beside_text s end

    valid_beside : IsValidView beside
    valid_beside =
        valid_entered s.graph (terms_of end.triples) well.graph.valid (narrow_terms end.triples valid)

    follow_beside : (nets : List Net) → CanFollow limits.triples s.graph nets
        → CanFollow limits.triples beside nets
    follow_beside nets =
        let grown = with_terms_grow s.graph.terms (terms_of end.triples) in
        CanFollow-over limits.triples s.graph beside nets (record {
          more = grown.0;
          terms = grown.1;
          triples = SameMembers-itself s.graph.triples;
          old = IsSound-whole limits.triples s.graph well.graph;
          new = IsSound-valid beside valid_beside well.graph.triples;
        })

    Stands-beside : (plan : Planned) (kept : List Pair) (halted : Bool) → StandsWell limits
        (record s { graph = beside; plan = plan; kept = kept; line = s.line + 1; halted = halted })
    Stands-beside plan kept halted = record {
      graph = record {
        valid = valid_beside;
        terms = once_entered s.graph.terms (terms_of end.triples) well.graph.terms;
        triples = well.graph.triples;
        few = well.graph.few;
      };
      group = well.group;
      course = record {
        back = follow_beside (map (turned true) (reverse (take s.made s.changes))) well.course.back;
        forth = follow_beside (drop s.made s.changes) well.course.forth;
      };
      within = well.within;
      loads = well.loads;
    }

    Stands-obstacle : (obstacle : Obstacle) → StandsWell limits (obstacle_step s beside obstacle).state
    Stands-obstacle (breaks fault) = Stands-refused (obstacle_code (breaks fault)) None
    Stands-obstacle (recurs shape) = Stands-refused (obstacle_code (recurs shape)) None
    Stands-obstacle (reaches_far shape) = Stands-refused (obstacle_code (reaches_far shape)) None
    Stands-obstacle (misspells shape) = Stands-refused (obstacle_code (misspells shape)) None
    Stands-obstacle (is_refused shape) = Stands-beside s.plan s.kept true

    Stands-judged : (judgement : Judgement) → StandsWell limits (judged_step s beside judgement).state
    Stands-judged (takes plan alikes) = Stands-beside plan (kept_over plan alikes beside s.kept) s.halted
    Stands-judged (refuses obstacle) = Stands-obstacle obstacle
    Stands-judged unjudged = Stands-cut

  Stands-text : (reading : TextReading) (judgement : Judgement) → StatesValid reading
      → StandsWell limits (text_step limits s reading judgement).state
  Stands-text Long judgement valid = Stands-refused TEXT_TOO_LONG None
  Stands-text (Faulty code at) judgement valid = Stands-refused code None
  Stands-text (States document end) judgement valid =
      elim (nat_lt limits.terms (length (beside_text s end).terms)) as
      (λ b. StandsWell limits (if b then refusal s GRAPH_TERMS None
      else judged_step s (beside_text s end) judgement).state) [
        | true ↦ Stands-refused GRAPH_TERMS None
        | false ↦ Stands-judged end valid judgement
      ]

-- a text that is loaded, and those of later lines
Stands-load : (limits : Limits) (s : ScriptState) → StandsWell limits s → (loads : List Load)
    → All (λ load. StatesValid load.reading) loads → StandsWell limits (load_step limits s loads).state
Stands-load limits s well [] valid = Stands-cut limits s well
Stands-load limits s well (load ∷ rest) valid =
    let P : Load → Type 0 = λ load. StatesValid load.reading in
    Stands-text limits (with_loads rest s) (record {
      graph = well.graph;
      group = well.group;
      course = well.course;
      within = well.within;
      loads = All-tail P load rest valid;
    }) load.reading load.judgement (All-head P load rest valid)

-- ---- lines

module _ (limits : Limits) (s : ScriptState) (well : StandsWell limits s) where
  Stands-shapes : (group : Option (List Edit)) → StandsWell limits (shapes_step limits s group).state
  Stands-shapes None = Stands-load limits s well s.loads well.loads
  Stands-shapes (Some waiting) = Stands-refused limits s well GROUP_OPEN None

  pub Stands-command : (command : Command) → IsValidCommand command
      → StandsWell limits (command_step limits s command).state
  Stands-command (edits edit) fit = Stands-edit limits s well edit fit s.group refl
  Stands-command Begin fit = Stands-begin limits s well s.group
  Stands-command Commit fit = Stands-commit limits s well s.group refl
  Stands-command Abandon fit = Stands-abandon limits s well s.group
  Stands-command Undo fit = Stands-undo limits s well s.group
  Stands-command Redo fit = Stands-redo limits s well s.group
  Stands-command Report fit = Stands-stays limits s well s.group well.group
  Stands-command Count fit = Stands-stays limits s well s.group well.group
  Stands-command (Slice shape node) fit = Stands-slice limits s well (pair_in s.plan s.graph shape node)
  Stands-command (Shapes name) fit = Stands-shapes s.group
  Stands-command Nothing fit = Stands-stays limits s well s.group well.group

  Stands-reading : (reading : Result Command LineFault) → IfOk reading IsValidCommand
      → StandsWell limits (reading_step limits s reading).state
  Stands-reading (Ok command) fit = Stands-command command fit
  Stands-reading (Err (Line code at)) fit = Stands-refused limits s well code at
  Stands-reading (Err Memory) fit = well

Stands-line : (manner : Manner) (s : ScriptState) → StandsWell manner.limits s → (line : List ℕ)
    → IfOk (manner.lines line) IsValidCommand → StandsWell manner.limits (script_step manner s line).state
Stands-line manner s well line fit =
    elim s.halted as (λ b. StandsWell manner.limits
    (if b then is_silent s else reading_step manner.limits s (manner.lines line)).state) [
      | true ↦ well
      | false ↦ Stands-reading manner.limits s well (manner.lines line) fit
    ]

pub Stands-start : (limits : Limits) (g : Graph) (end : State) (plan : Planned) → IsWhole limits.triples g
    → StandsWell limits (start_state g end plan)
Stands-start limits g end plan whole =
    record {
      graph = whole;
      group = tt;
      course = record { back = tt; forth = tt };
      within = omega arith;
      loads = All-nil (λ (load : Load). StatesValid load.reading);
    }

pub Stands-lines : (manner : Manner) (s : ScriptState) (lines : List (List ℕ)) → StandsWell manner.limits s
    → AreValidLines manner.lines lines → StandsWell manner.limits (serve_lines manner s lines).state
Stands-lines manner s [] well fit = well
Stands-lines manner s (line ∷ lines) well fit =
    let P : List ℕ → Type 0 = λ line. IfOk (manner.lines line) IsValidCommand in
    Stands-lines manner (script_step manner s line).state lines
    (Stands-line manner s well line (All-head P line lines fit))
    (All-tail P line lines fit)
