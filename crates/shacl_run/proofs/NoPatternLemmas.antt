-- Where no text that lines load states a pattern, none is refused.
use Rattle.std.specs.Prelude.{◌≡◌, ℕ, All, Bool, true, false, nat_lt, List, [], ◌∷◌, length}
use Rattle.std.specs.Prelude.{None, Option, Some, IfOk, IfSome, Result, Ok, Err, if◌then◌else◌}
use Rattle.std.specs.Option.{option_and_then, option_map}
use Rattle.std.proofs.Common.{refl, sym, ap, subst}
use Rattle.std.proofs.lemmas.Bool.{ltb-false, ltb-true}
use Rattle.std.proofs.lemmas.List.Elements.{All-head, All-tail}
use Rattle.std.proofs.lemmas.Option.{same_Some}
use Rattle.shx_outside.specs.Outside.{FlaggedText}
use Rattle.shx_term.specs.declared.edit.Edit.{Edit}
use Rattle.shx_term.specs.declared.fault_codes.TheConstants.{GROUP_OPEN}
use Rattle.shx_term.specs.declared.limits.Limits.{Limits}
use Rattle.shx_term.specs.declared.term.Scope.TheVariants.{Shapes as of_shapes}
use Rattle.shx_term.specs.Vocabulary.{vocabulary}
use Rattle.shx_term.proofs.MemberLemmas.{Contains-head, Contains-tail}
use Rattle.graph_view.specs.Graph.{Graph}
use Rattle.shape_eval.specs.Plan.{Planned}
use Rattle.text_input.specs.Lines.{script_lines}
use Rattle.text_output.specs.declared.format.Format.{Format}
use Rattle.ttl_meaning.specs.State.{State}
use Rattle.command_words.specs.Asked.{Asked}
use Rattle.command_words.specs.Words.{command_words}
use Rattle.script_lines.specs.declared.command.Command.{Command}
use Rattle.script_lines.specs.declared.command.Command.TheVariants.{Edit as edits, Report, Count, Begin}
use Rattle.script_lines.specs.declared.command.Command.TheVariants.{Commit, Abandon, Undo, Redo, Slice}
use Rattle.script_lines.specs.declared.command.Command.TheVariants.{Nothing, Shapes}
use Rattle.script_lines.specs.declared.fault.LineFault.{LineFault}
use Rattle.script_lines.specs.Lines.{IsLineRead}
use Rattle.shape_text.specs.TextReadings.{TextReading, States, Faulty, Long, IsReadAs, stated_graph}
use Rattle.shape_text.specs.Verdict.{Verdict, passed_over, plans, stops}
use Rattle.shape_text.specs.Verdict.Obstacle.{breaks, recurs, reaches_far, misspells, is_refused}
use Rattle.script_run.specs.Admitted.{LoadsText, MayLoad}
use Rattle.script_run.specs.LineReadings.{IsReadBehind}
use Rattle.script_run.specs.Load.{IsJudgement, Judgement, Load, is_pattern_refused, refuses, takes, unjudged}
use Rattle.script_run.specs.Loaded.{AreLinesLoaded, IsJudged, IsJudgedBeside, IsLoad, IsNext, IsNextOutside}
use Rattle.script_run.specs.Loaded.{IsReadingLoaded, IsTextRead, Library, LoadsNothing}
use Rattle.script_run.specs.Manner.{Manner}
use Rattle.script_run.specs.Replies.{is_any_refused}
use Rattle.script_run.specs.Script.{Step, beside_text, command_step, is_silent, load_step, reading_step}
use Rattle.script_run.specs.Script.{refusal, shapes_step, stated_beside, text_step}
use Rattle.script_run.specs.ScriptState.{ScriptState, with_loads}
use Rattle.script_run.proofs.LoadsLemmas.{leaving_text, reading_beside}
use Rattle.shacl_run.specs.Complete.{HasNoPattern, LoadsNoPattern}
use Rattle.shacl_run.specs.Loads.{AreLoaded, AreOpeningLoaded, words_library}
use Rattle.shacl_run.specs.Outside.{Outside}
use Rattle.shacl_run.specs.Readings.{LinesAreRead, Readings}
use Rattle.shacl_run.specs.Run.{Opening, Output, ends, files_opening, opening, opening_output, opens}
use Rattle.shacl_run.specs.Run.{run_output, texts_opening, with_data, with_shapes, with_verdict}
use Rattle.shacl_run.specs.Run.{words_manner, words_script}
use Rattle.shacl_run.specs.RunClauses.{LinesAreReadBy}

-- ---- one text

module _ (limits : Limits) (library : Library) (last : Option FlaggedText) (s : ScriptState)
    (name : List ℕ) (no : LoadsNoPattern limits library name) where
  -- what its shapes come to is no pattern that was refused
  judged_built : (document : Graph) (end : State) → IsTextRead limits library name (States document end)
      → (judgement : Judgement) → IsJudgement limits last s.plan (stated_beside s end) judgement
      → is_pattern_refused judgement ≡ false
  judged_built document end read (takes plan alikes) is = refl
  judged_built document end read (refuses (breaks fault)) is = refl
  judged_built document end read (refuses (recurs shape)) is = refl
  judged_built document end read (refuses (reaches_far shape)) is = refl
  judged_built document end read (refuses (misspells shape)) is = refl
  judged_built document end read (refuses (is_refused shape)) is =
      let told = subst (λ (text : Option (List ℕ)). IfSome text (λ bytes.
      IsReadAs limits library.base of_shapes vocabulary bytes (States document end))) no.told read in
      let at = is.0.1 in
      absurd (no.none document end told s.graph.terms at.decl at.value at.states)
  judged_built document end read unjudged is = absurd is

  stated_built : (document : Graph) (end : State) → IsTextRead limits library name (States document end)
      → (judgement : Judgement) → IsJudgedBeside limits last s end judgement
      → is_pattern_refused judgement ≡ false
  stated_built document end read judgement is =
      elim (nat_lt limits.terms (length (beside_text s end).terms)) as
      (λ b. nat_lt limits.terms (length (beside_text s end).terms) ≡ b
      → is_pattern_refused judgement ≡ false) [
        | true ↦ λ more. ap is_pattern_refused
            (is.has_no_room (ltb-true limits.terms (length (beside_text s end).terms) more))
        | false ↦ λ fits. judged_built document end read judgement
            (is.fits (ltb-false limits.terms (length (beside_text s end).terms) fits))
      ] refl

  reading_built : (reading : TextReading) (judgement : Judgement) → IsTextRead limits library name reading
      → IsJudged limits last s reading judgement → is_pattern_refused judgement ≡ false
  reading_built (States document end) judgement read is = stated_built document end read judgement is
  reading_built (Faulty code at) judgement read is = ap is_pattern_refused is
  reading_built Long judgement read is = ap is_pattern_refused is

  load_built : (load : Load) → IsLoad limits library last s name load
      → is_pattern_refused load.judgement ≡ false
  load_built load is = reading_built load.reading load.judgement is.read is.judged

-- ---- each of them

module _ (manner : Manner) (library : Library) (last : Option FlaggedText) (end : State) where
  abbrev IsRead : List ℕ → Type 0
  IsRead line = IsReadBehind manner.limits end line (manner.lines line)

  -- no text that the lines load states a pattern
  abbrev LoadNone : List (List ℕ) → Type 0
  LoadNone lines =
      (name : List ℕ) → LoadsText manner.limits lines name → LoadsNoPattern manner.limits library name

  load_later : (line : List ℕ) (lines : List (List ℕ)) → LoadNone (line ∷ lines) → LoadNone lines
  load_later line lines none name loads = none name (record {
    line = loads.line;
    stands = Contains-tail line loads.line lines loads.stands;
    document = loads.document;
    read = loads.read;
  })

  load_first : (line : List ℕ) (lines : List (List ℕ)) → LoadNone (line ∷ lines) → IsRead line
      → (name : List ℕ) → manner.lines line ≡ Ok (Shapes name) → LoadsNoPattern manner.limits library name
  load_first line lines none read name is = none name (record {
    line = line;
    stands = Contains-head line lines;
    document = read.document;
    read = subst (IsLineRead manner.limits read.document line) is read.read;
  })

  abbrev IsBuilt : ScriptState → Type 0
  IsBuilt s = is_any_refused s.loads ≡ false

  -- at one line, where none is refused at those behind it
  module _ (s : ScriptState) (line : List ℕ) (lines : List (List ℕ)) (read : IsRead line)
      (none : LoadNone (line ∷ lines))
      (later : (t : ScriptState) → AreLinesLoaded ⊥ manner library last t lines → IsBuilt t) where
    by_loads : (name : List ℕ) → manner.lines line ≡ Ok (Shapes name) → (loads : List Load)
        → IsNext ⊥ manner.limits library last s name loads
        → AreLinesLoaded ⊥ manner library last (load_step manner.limits s loads).state lines
        → is_any_refused loads ≡ false
    by_loads name is [] right all = absurd right
    by_loads name is (load ∷ rest) right all =
        let step = text_step manner.limits s load.reading load.judgement in
        let beside = leaving_text manner.limits rest s load.reading load.judgement in
        let left = subst (λ (step : Step). AreLinesLoaded ⊥ manner library last step.state lines) beside
        all in
        let no = load_first line lines none read name is in
        rw (load_built manner.limits library last s name no load right)
        (later (with_loads rest step.state) left)

    by_group : (name : List ℕ) → manner.lines line ≡ Ok (Shapes name) → (group : Option (List Edit))
        → IsNextOutside ⊥ manner.limits library last s name group
        → AreLinesLoaded ⊥ manner library last (shapes_step manner.limits s group).state lines → IsBuilt s
    by_group name is None right all = by_loads name is s.loads right all
    by_group name is (Some waiting) right all = later (refusal s GROUP_OPEN None).state all

    alone : (reading : Result Command LineFault) → IfOk reading LoadsNothing
        → AreLinesLoaded ⊥ manner library last (reading_step manner.limits s reading).state lines → IsBuilt s
    alone reading nothing all =
        subst (λ (step : Step). is_any_refused step.state.loads ≡ false)
        (reading_beside manner.limits s s.loads reading nothing)
        (later (reading_step manner.limits s reading).state all)

    by_command : (command : Command) → manner.lines line ≡ Ok command
        → IsReadingLoaded ⊥ manner.limits library last s (Ok command)
        → AreLinesLoaded ⊥ manner library last (command_step manner.limits s command).state lines → IsBuilt s
    by_command (edits edit) is right all = alone (Ok (edits edit)) tt all
    by_command Begin is right all = alone (Ok Begin) tt all
    by_command Commit is right all = alone (Ok Commit) tt all
    by_command Abandon is right all = alone (Ok Abandon) tt all
    by_command Undo is right all = alone (Ok Undo) tt all
    by_command Redo is right all = alone (Ok Redo) tt all
    by_command Report is right all = alone (Ok Report) tt all
    by_command Count is right all = alone (Ok Count) tt all
    by_command (Slice shape node) is right all = alone (Ok (Slice shape node)) tt all
    by_command (Shapes name) is right all = by_group name is s.group right all
    by_command Nothing is right all = alone (Ok Nothing) tt all

    by_reading : (reading : Result Command LineFault) → manner.lines line ≡ reading
        → IsReadingLoaded ⊥ manner.limits library last s reading
        → AreLinesLoaded ⊥ manner library last (reading_step manner.limits s reading).state lines → IsBuilt s
    by_reading (Err fault) is right all = alone (Err fault) tt all
    by_reading (Ok command) is right all = by_command command is right all

    by_halted : (halted : Bool) → s.halted ≡ halted
        → (s.halted ≡ false → IsReadingLoaded ⊥ manner.limits library last s (manner.lines line))
        → AreLinesLoaded ⊥ manner library last
        (if halted then is_silent s else reading_step manner.limits s (manner.lines line)).state lines
        → IsBuilt s
    by_halted true is right all = later s all
    by_halted false is right all = by_reading (manner.lines line) refl (right is) all

  pub lines_built : (s : ScriptState) (lines : List (List ℕ))
      → AreLinesLoaded ⊥ manner library last s lines → All IsRead lines → LoadNone lines
      → is_any_refused s.loads ≡ false
  lines_built s [] none_left read none = ap is_any_refused none_left
  lines_built s (line ∷ lines) loaded read none =
      by_halted s line lines (All-head IsRead line lines read) none
      (λ t all. lines_built t lines all (All-tail IsRead line lines read) (load_later line lines none))
      s.halted refl loaded.0 loaded.1

-- ---- of a run

-- what the texts come to is reported only where the shapes have a plan and the data text is a document
pub record OpensBy (readings : Readings) (verdict : Verdict) : Type 0 where
  pub plan : Planned
  pub planned : verdict ≡ plans plan
  pub document : Graph
  pub end : State
  pub stated : readings.data_text ≡ States document end

module _ (format : Format) (readings : Readings) (notices : ℕ) (s : ScriptState) where
  opened_data : (count : ℕ) (plan : Planned) (reading : TextReading)
      → with_data format count plan reading ≡ opens notices s
      → (document : Graph) × (end : State) × (reading ≡ States document end)
  opened_data count plan (States document end) is = (document, end, refl)
  opened_data count plan (Faulty code at) is = absurd (cc)
  opened_data count plan Long is = absurd (cc)

  opened_verdict : (g : Graph) (verdict : Verdict) (text : Option (List ℕ))
      → with_verdict format readings g verdict text ≡ Some (opens notices s) → OpensBy readings verdict
  opened_verdict g (plans plan) None is = absurd (cc)
  opened_verdict g (plans plan) (Some bytes) is =
      let found = opened_data (passed_over g) plan readings.data_text
      (same_Some (with_data format (passed_over g) plan readings.data_text) (opens notices s) is) in record {
        plan = plan;
        planned = refl;
        document = found.0;
        end = found.1;
        stated = found.2;
      }
  opened_verdict g (stops obstacle) text is = absurd (cc)

  opened_shapes : (verdict : Verdict) (reading : TextReading) (text : Option (List ℕ))
      → with_shapes format readings verdict reading text ≡ Some (opens notices s)
      → OpensBy readings verdict
  opened_shapes verdict (States document end) text is =
      opened_verdict (stated_graph document) verdict text is
  opened_shapes verdict (Faulty code at) text is = absurd (cc)
  opened_shapes verdict Long text is = absurd (cc)

  opened_texts : (verdict : Verdict) (shapes text : Option (List ℕ))
      → texts_opening format readings verdict shapes text ≡ Some (opens notices s)
      → OpensBy readings verdict
  opened_texts verdict None text is = absurd (cc)
  opened_texts verdict (Some bytes) text is = opened_shapes verdict readings.shapes text is

opened_files : (readings : Readings) (verdict : Verdict) (asked : Option Asked)
    (texts : List ℕ → Option (List ℕ)) (notices : ℕ) (s : ScriptState)
    → files_opening readings verdict asked texts ≡ Some (opens notices s) → OpensBy readings verdict
opened_files readings verdict None texts notices s is = absurd (cc)
opened_files readings verdict (Some asked) texts notices s is =
    opened_texts asked.format readings notices s verdict (texts asked.files.shapes_file)
    (texts asked.files.data_file) is

module _ (limits : Limits) (words : List (List ℕ)) (before : Outside) (readings : Readings)
    (has : HasNoPattern limits readings words before) (verdict : Verdict) (last : Option FlaggedText)
    (loads : List Load)
    (lines : LinesAreReadBy limits readings verdict (command_words words) before.inputs.text)
    (output : Output) where
  abbrev texts : List ℕ → Option (List ℕ)
  texts = before.inputs.text

  abbrev manner : Manner
  manner = words_manner limits readings words

  abbrev library : Library
  library = words_library (command_words words) texts

  script_built : (notices : ℕ) (s : ScriptState) → OpensBy readings verdict → (script : Option (List ℕ))
      → words_script texts (command_words words) ≡ script
      → opening_output manner loads script (opens notices s) ≡ Some output
      → AreOpeningLoaded ⊥ manner library last script loads (opens notices s)
      → is_any_refused loads ≡ false
  script_built notices s opened None told due all = absurd (cc)
  script_built notices s opened (Some bytes) told due all =
      let read = subst (LinesAreRead limits readings verdict) told lines in
      lines_built manner library last opened.end (with_loads loads s) (script_lines limits.script bytes) all
      (read opened.document opened.end opened.plan opened.planned opened.stated)
      (λ name load. has.loads name (subst (λ (script : Option (List ℕ)).
      MayLoad limits (option_map (script_lines limits.script) script) name) (sym told) load))

  opening_built : (o : Option Opening) → opening readings verdict words texts ≡ o
      → option_and_then (opening_output manner loads (words_script texts (command_words words))) o
      ≡ Some output
      → IfSome o (AreOpeningLoaded ⊥ manner library last (words_script texts (command_words words)) loads)
      → is_any_refused loads ≡ false
  opening_built None is due all = absurd (cc)
  opening_built (Some (ends ended)) is due all = ap is_any_refused all
  opening_built (Some (opens notices s)) is due all =
      script_built notices s (opened_files readings verdict (command_words words) texts notices s is)
      (words_script texts (command_words words)) refl due all

  -- where an output is due
  pub no_load_refused : run_output limits readings verdict loads words texts ≡ Some output
      → AreLoaded ⊥ limits readings verdict last words texts loads → is_any_refused loads ≡ false
  no_load_refused due all = opening_built (opening readings verdict words texts) refl due all
