-- A run over files, by what was prepared.
use Rattle.std.proofs.Common.{◌≡◌, ◌≢◌, ℕ, ◌≤◌, false, List, [], ◌++◌, Option, None, Some}
use Rattle.std.proofs.Common.{Result, Err, Ok, inl, inr, refl, ap, sym, ◌∙◌, subst, true≢false}
use Rattle.std.specs.Prelude.{All, IfSome, ◌⊎◌}
use Rattle.std.specs.Option.{option_and_then, option_map}
use Rattle.shx_outside.specs.Counted.{Rose}
use Rattle.shx_outside.specs.declared.role.Role.TheVariants.{Data, Script}
use Rattle.shx_outside.specs.Outside.{PatternState}
use Rattle.shx_term.specs.declared.limits.Limits.{Limits}
use Rattle.shx_term.specs.declared.term.Term.{Term}
use Rattle.shx_term.specs.Pool.{Pooled}
use Rattle.graph_view.specs.Graph.{Graph}
use Rattle.shape_eval.specs.Plan.{Planned}
use Rattle.text_input.specs.Lines.{script_lines}
use Rattle.text_output.specs.declared.format.Format.{Format}
use Rattle.ttl_meaning.specs.State.{State}
use Rattle.script_lines.specs.declared.fault.LineFault.TheVariants.{Memory}
use Rattle.report_write.specs.declared.answer.Answer.{Answer}
use Rattle.report_write.specs.declared.answer.Answer.TheVariants.{OfShape}
use Rattle.shx_term.specs.declared.fault_codes.TheConstants.{PATTERN_REFUSED}
use Rattle.command_words.specs.Asked.{Asked}
use Rattle.command_words.specs.Words.{command_words}
use Rattle.shacl_run.specs.declared.status.Status.{Status}
use Rattle.shacl_run.specs.declared.status.Status.TheVariants.{InputFault}
use Rattle.shape_text.specs.declared.unopened.Unopened.{Unopened}
use Rattle.shape_text.specs.declared.unopened.Unopened.TheVariants.{Told}
use Rattle.script_run.specs.declared.validation.Validation.{Validation}
use Rattle.shacl_run.specs.inner.Ends.{Ends, EndsBy, EndsByPattern}
use Rattle.shacl_run.specs.inner.Files.{FilesAreRead, FilesOpenOnly, RunsFiles, RunsWords, Serves}
use Rattle.shacl_run.specs.inner.Files.{files_output}
use Rattle.shacl_run.specs.inner.Prepared.{AreRead, IsPrepared}
use Rattle.shacl_run.specs.inner.Serving.{HaveReadings, LinesAreReadAt, RunsScript}
use Rattle.script_run.specs.Loaded.{Library}
use Rattle.script_run.specs.Stored.{IsValidation}
use Rattle.script_run.specs.Manner.{LineReadings, Manner}
use Rattle.shape_text.specs.Names.{HasNamesOf}
use Rattle.shacl_run.specs.Readings.{Readings, LinesAreRead}
use Rattle.shape_text.specs.TextReadings.{TextReading, States, Faulty, Long, stated_graph}
use Rattle.shape_text.specs.ShapesReadings.{ShapesAreRead}
use Rattle.script_run.specs.LineReadings.{IsReadBehind}
use Rattle.shacl_run.specs.Loads.{AreOpeningLoaded, is_refused_by, words_library}
use Rattle.shacl_run.specs.Outside.{Outside}
use Rattle.shacl_run.specs.Run.{IsOpening, Opening, behind, files_opening, manner_of, opening_fed}
use Rattle.shacl_run.specs.Run.{opening_output, refused, script_text, words_format, words_script}
use Rattle.shacl_run.specs.Run.{texts_opening, validation_output, with_data, with_shapes, with_verdict}
use Rattle.shacl_run.specs.Run.Opening.{ends, opens}
use Rattle.shacl_run.specs.RunClauses.{ByVerdict, DataIsReadBy, IsOpenedBy, LinesAreReadBy, OpensOnly}
use Rattle.shacl_run.specs.RunClauses.{StopsFed, words_shapes}
use Rattle.shacl_run.specs.Status.{IsCutShort}
use Rattle.script_run.specs.ScriptState.{ScriptState, start_state, with_loads}
use Rattle.script_run.specs.Work.{no_work}
use Rattle.shape_text.specs.Verdict.{RoseWhere, Verdict, plans, refuses_pattern, stops}
use Rattle.shacl_run.proofs.EndLemmas.{Ends-told}
use Rattle.shacl_run.proofs.RunLemmas.{ByVerdict-then}
use Rattle.shacl_run.proofs.RefusalLemmas.{Rose_or_not, by_loads, by_shapes, counted, unrefused_told}
use Rattle.shacl_run.proofs.ValidationRunLemmas.{ended_loaded, ended_told, opened_told, opening_told}

-- ---- what a state that is reported was opened from

-- a plan, and a data text that states a document, at whose end the state starts
pub record OpensState (verdict : Verdict) (data_text : TextReading) (s : ScriptState) : Type 0 where
  pub plan : Planned
  pub planned : verdict ≡ plans plan
  pub document : Graph
  pub end : State
  pub states : data_text ≡ States document end
  pub start : start_state (stated_graph document) end plan ≡ s

same_opening : (m n : ℕ) (s t : ScriptState) → opens m s ≡ opens n t → s ≡ t
same_opening m n s t is = cc

not_opened : (n : ℕ) (s : ScriptState) (output : _) → ends output ≡ opens n s → ⊥
not_opened n s output is = cc

opens_data : (format : Format) (m n : ℕ) (plan : Planned) (reading : TextReading) (s : ScriptState)
    → with_data format m plan reading ≡ opens n s → OpensState (plans plan) reading s
opens_data format m n plan (States document end) s is =
    record {
      plan = plan;
      planned = refl;
      document = document;
      end = end;
      states = refl;
      start = same_opening m n (start_state (stated_graph document) end plan) s is;
    }
opens_data format m n plan (Faulty code at) s is = absurd (not_opened n s _ is)
opens_data format m n plan Long s is = absurd (not_opened n s _ is)

module _ (format : Format) (readings : Readings) (n : ℕ) (s : ScriptState) where
  opens_verdict : (g : Graph) (verdict : Verdict) (data_text : Option (List ℕ))
      → IfSome (with_verdict format readings g verdict data_text) (λ opening. opening ≡ opens n s)
      → (opening : Opening) → with_verdict format readings g verdict data_text ≡ Some opening
      → OpensState verdict readings.data_text s
  opens_verdict g (plans plan) None is opening some = absurd (cc)
  opens_verdict g (plans plan) (Some text) is opening some =
      opens_data format _ n plan readings.data_text s is
  opens_verdict g (stops obstacle) data_text is opening some = absurd (not_opened n s _ is)

  opens_shapes : (verdict : Verdict) (shapes : TextReading) (data_text : Option (List ℕ))
      → IfSome (with_shapes format readings verdict shapes data_text) (λ opening. opening ≡ opens n s)
      → (opening : Opening) → with_shapes format readings verdict shapes data_text ≡ Some opening
      → OpensState verdict readings.data_text s
  opens_shapes verdict (States document end) data_text =
      opens_verdict (stated_graph document) verdict data_text
  opens_shapes verdict (Faulty code at) data_text = λ is opening some. absurd (not_opened n s _ is)
  opens_shapes verdict Long data_text = λ is opening some. absurd (not_opened n s _ is)

  pub opens_texts : (verdict : Verdict) (shapes data_text : Option (List ℕ))
      → IfSome (texts_opening format readings verdict shapes data_text) (λ opening. opening ≡ opens n s)
      → (opening : Opening) → texts_opening format readings verdict shapes data_text ≡ Some opening
      → OpensState verdict readings.data_text s
  opens_texts verdict None data_text is opening some = absurd (cc)
  opens_texts verdict (Some text) data_text is opening some =
      opens_shapes verdict readings.shapes data_text is opening some

-- so the lines of the script are read as those of the state
lines_at : (limits : Limits) (readings : Readings) (format : Format) (verdict : Verdict) (s : ScriptState)
    → OpensState verdict readings.data_text s → (script : Option (List ℕ))
    → LinesAreRead limits readings verdict script
    → LinesAreReadAt (manner_of limits readings format) s limits.script script
lines_at limits readings format verdict s from None lines = tt
lines_at limits readings format verdict s from (Some bytes) lines =
    subst (λ (end : State). All (λ line. IsReadBehind limits end line (readings.lines line))
    (script_lines limits.script bytes)) (ap (λ (s : ScriptState). s.data_end) from.start)
    (lines from.document from.end from.plan from.planned from.states)

-- what follows where the texts are told, and in any case
by_opening : (told : Option Opening) (n : ℕ) (s : ScriptState) (P : Option Opening → Type 0)
    → IfSome told (λ opening. opening ≡ opens n s) → P None
    → ((opening : Opening) → told ≡ Some opening → P told) → P told
by_opening None n s P is untold told = untold
by_opening (Some opening) n s P is untold told = told opening refl

-- ---- what was read

-- lines that have readings are read so
found_lines : (limits : Limits) (readings : Readings) (verdict : Verdict) (reading : TextReading)
    → readings.data_text ≡ reading → (script : Option (List ℕ))
    → ((document : Graph) (end : State) (plan : Planned) → verdict ≡ plans plan
    → reading ≡ States document end → HaveReadings limits end limits.script script)
    → (verdict' : Verdict) → verdict ≡ verdict'
    → (lines : LineReadings) × LinesAreRead limits (record readings { lines = lines }) verdict script
found_lines limits readings verdict reading same None have verdict' decided = (λ line. Err Memory, tt)
found_lines limits readings verdict (States document end) same (Some bytes) have (plans plan) decided =
    let (lines, all) = have document end plan decided refl in (
      lines,
      λ document' end' plan' is states.
          let one : end ≡ end' = cc in
          subst (λ (end : State). All (λ line. IsReadBehind limits end line (lines line))
          (script_lines limits.script bytes)) one all,
    )
found_lines limits readings verdict (States document end) same (Some bytes) have (stops obstacle) decided =
    (λ line. Err Memory, λ document' end' plan' is states. absurd (cc))
found_lines limits readings verdict (Faulty code at) same (Some bytes) have verdict' decided =
    (λ line. Err Memory, λ document' end' plan' is states. absurd (cc))
found_lines limits readings verdict Long same (Some bytes) have verdict' decided =
    (λ line. Err Memory, λ document' end' plan' is states. absurd (cc))

module _ (limits : Limits) (asked : Asked) (before after : Outside) where
  abbrev texts : List ℕ → Option (List ℕ)
  texts = before.inputs.text

  abbrev told_script : Option (List ℕ)
  told_script = script_text texts asked.files.script_file

  abbrev HasRisen : Type 0
  HasRisen = Rose before.patterns.faults after.patterns.faults

  -- the lines are read where no pattern was refused, and some readings are theirs in any case
  all_read : (prepared : _) (read : AreRead limits asked.base (texts asked.files.shapes_file)
      (texts asked.files.data_file) prepared)
      → ((HasRisen → ⊥) → (document : Graph) (end : State) (plan : Planned) → read.verdict ≡ plans plan
      → read.readings.data_text ≡ States document end
      → HaveReadings limits end limits.script told_script)
      → FilesAreRead limits asked before after
  all_read prepared read have = elim (Rose_or_not before.patterns.faults after.patterns.faults) [
    | inl risen ↦ with_lines read.readings.lines (λ calm. absurd (calm risen))
    | inr calm ↦
        let (lines, are_read) =
        found_lines limits read.readings read.verdict read.readings.data_text refl told_script (have calm)
        read.verdict refl in
        with_lines lines (λ _. are_read)
  ]
    where
      with_lines : (lines : LineReadings)
          → ((HasRisen → ⊥)
          → LinesAreRead limits (record read.readings { lines = lines }) read.verdict told_script)
          → FilesAreRead limits asked before after
      with_lines lines are_read = record {
        readings = record read.readings { lines = lines };
        shapes = read.shapes_read;
        verdict = read.verdict;
        judged = read.judged;
        data_text = read.data_read;
        lines = are_read;
      }

  -- where no validation was opened, no line is read
  pub refused_read : (answer : Answer) (pool : Pooled) → AreRead limits asked.base
      (texts asked.files.shapes_file) (texts asked.files.data_file) (Err (Told answer pool))
      → FilesAreRead limits asked before after
  refused_read answer pool read =
      all_read (Err (Told answer pool)) read
      (λ calm document end plan planned states. absurd (read.names_read document end plan planned states))

  -- where one was, the lines behind its names have readings
  pub opened_read : (validation : Validation) → AreRead limits asked.base
      (texts asked.files.shapes_file) (texts asked.files.data_file) (Ok validation)
      → ((HasRisen → ⊥) → (end : State) → HasNamesOf end validation.document
      → HaveReadings limits end limits.script told_script) → FilesAreRead limits asked before after
  opened_read validation read have =
      all_read (Ok validation) read
      (λ calm document end plan planned states. have calm end (read.names_read document end states))

-- ---- a run whose texts were refused

-- it tells of a refused pattern where the host refused one
pub by_pattern : (format : Format) (terms : List Term) (answer : Answer) (status : Status)
    (before after : Outside)
    → (after.patterns.faults ≡ before.patterns.faults)
    ⊎ ((shape : ℕ) × (answer ≡ OfShape PATTERN_REFUSED shape))
    → Ends (Some (refused format terms answer)) status before after
    → EndsByPattern format status before after
by_pattern format terms answer status before after (inl same) run_ends = inl same
by_pattern format terms answer status before after (inr (shape, is)) run_ends =
    inr (
      [],
      terms,
      shape,
      subst (λ (a : Answer). Ends (Some (behind [] no_work (refused format terms a))) status before after) is
          run_ends,
    )

module _ (limits : Limits) (readings : Readings) (asked : Asked) (before after : Outside) (status : Status)
    (DataIsOpened : Type 0)
    (right : ShapesAreRead limits asked.base readings.shapes (before.inputs.text asked.files.shapes_file))
    (data_opened : IsOpenedBy before.inputs after.inputs Data → DataIsOpened) where
  abbrev shapes_text : Option (List ℕ)
  shapes_text = before.inputs.text asked.files.shapes_file

  abbrev data_text : Option (List ℕ)
  data_text = before.inputs.text asked.files.data_file

  abbrev script : Option (List ℕ)
  script = script_text before.inputs.text asked.files.script_file

  abbrev manner : Manner
  manner = manner_of limits readings asked.format

  abbrev library : Library
  library = words_library (Some asked) before.inputs.text

  -- what was prepared, when the pattern host had come so far
  abbrev IsPreparedAs : PatternState → Result Validation Unopened → Type 0
  IsPreparedAs patterns = IsPrepared limits asked.format asked.base shapes_text data_text before.patterns
      patterns DataIsOpened

  pub files_refused : (answer : Answer) (pool : Pooled) → IsPreparedAs after.patterns (Err (Told answer pool))
      → Ends (Some (refused asked.format pool.terms answer)) status before after
      → status ≢ InputFault → (IsOpenedBy before.inputs after.inputs Script → ⊥)
      → RunsFiles limits readings asked before after status
  files_refused answer pool is run_ends other no_script =
      let by = is.due (λ cut. cut) readings right in
      let verdict = by.verdict in
      let output = refused asked.format pool.terms answer in
      let opening = texts_opening asked.format readings verdict shapes_text data_text in
      inl (record {
        verdict = verdict;
        judged = by.judged;
        patterns = λ refuses. subst
            (λ b. RoseWhere b before.patterns.faults after.patterns.faults) refuses by.patterns;
        refused = by.refused;
        says = λ data_right lines. record {
          by = record {
            told = [];
            right = ended_loaded (IsCutShort status) manner library after.patterns.refused script opening
                output (by.says.due data_right);
            run_ends = λ rest.
                Ends-told (files_output limits readings verdict asked before.inputs.text rest) (Some output)
                status before after (ended_told manner rest script opening output (by.says.due data_right))
                run_ends;
            patterns = by_shapes (refuses_pattern verdict) before.patterns.faults after.patterns.faults
                by.patterns;
            stops = λ failed. absurd (other failed);
          };
          opened = record {
            data_text = λ opened. by.says.planned (data_opened opened);
            script = λ opened. absurd (no_script opened);
          };
        };
      })

  -- ---- a run of a validation

  -- it ends as is due for what the texts came to, by a verdict
  abbrev EndsFor : Verdict → Option Opening → Type 0
  EndsFor verdict opening =
      EndsBy (λ loads. option_and_then (opening_output manner loads script) opening)
      (λ loads. IfSome opening
      (AreOpeningLoaded (IsCutShort status) manner library after.patterns.refused script loads))
      (λ loads. IsOpenedBy before.inputs after.inputs Script → IfSome opening (λ o.
      StopsFed (opening_fed manner loads o) script (after.inputs.rest Script) before.sink after.sink))
      (is_refused_by verdict) status before after

  module _ (verdict : Verdict) (built : refuses_pattern verdict ≡ false) where
    -- where nothing is told of them
    untold_ends : before.patterns.faults ≤ after.patterns.faults → Ends None status before after
        → EndsFor verdict None
    untold_ends risen run_ends =
        let counts = counted before.patterns.faults after.patterns.faults risen in
        record {
          told = counts.loads;
          right = tt;
          run_ends = λ rest. run_ends;
          patterns = by_loads verdict counts.loads built before.patterns.faults after.patterns.faults
              counts.rose;
          stops = λ failed opened. tt;
        }

    told_ends : (opening : Option Opening) (notices : ℕ) (s : ScriptState)
        → IfSome opening (λ o. o ≡ opens notices s)
        → RunsScript manner library notices s script status before after → EndsFor verdict opening
    told_ends opening notices s is runs = record {
      told = runs.told;
      right = opening_told opening notices s
          (AreOpeningLoaded (IsCutShort status) manner library after.patterns.refused script runs.told) is
          runs.right;
      run_ends = λ rest.
          let loads = runs.told ++ rest in
          Ends-told (option_and_then (opening_output manner loads script) opening)
          (option_map (validation_output manner notices (with_loads loads s)) script) status before after
          (opened_told manner loads script opening notices s is) (runs.run_ends rest);
      patterns = by_loads verdict runs.told built before.patterns.faults after.patterns.faults runs.patterns;
      stops = λ failed opens_script. opening_told opening notices s
          (λ o. StopsFed (opening_fed manner runs.told o) script (after.inputs.rest Script) before.sink
          after.sink) is (runs.stops failed opens_script);
    }

  pub files_opened : (patterns : PatternState) (validation : Validation)
      → IsPreparedAs patterns (Ok validation) → before.patterns.faults ≤ after.patterns.faults
      → Ends None status before after
      → ((s : ScriptState) → IsValidation limits asked.format s validation
      → LinesAreReadAt manner s limits.script script
      → RunsScript manner library validation.passed_over s script status before after)
      → RunsFiles limits readings asked before after status
  files_opened patterns validation is risen causes runs =
      let by = is.due (λ cut. cut) readings right in
      let verdict = by.verdict in
      let built = by.says.built in
      let notices = validation.passed_over in
      let opening = texts_opening asked.format readings verdict shapes_text data_text in
      inl (record {
        verdict = verdict;
        judged = by.judged;
        patterns = λ refuses. absurd (true≢false (sym refuses ∙ built));
        refused = unrefused_told limits readings.shapes verdict after.patterns.refused built shapes_text;
        says = λ data_right lines.
            let opened = by.says.due data_right in
            let s = opened.state in
            let read = λ (told : Opening) (some : opening ≡ Some told).
            lines_at limits readings asked.format verdict s
            (opens_texts asked.format readings notices s verdict shapes_text data_text opened.due told some)
            script lines in
            record {
              by = by_opening opening notices s (EndsFor verdict) opened.due
                  (untold_ends verdict built risen causes)
                  (λ told some.
                  told_ends verdict built opening notices s opened.due
                  (runs s opened.stored (read told some)));
              opened = record {
                data_text = λ by_data. by.says.planned (data_opened by_data);
                script = λ _. opening_told opening notices s IsOpening opened.due tt;
              };
            };
      })

-- ---- words that name files

module _ (limits : Limits) (readings : Readings) (words : List (List ℕ)) (before after : Outside)
    (status : Status) where
  -- a run of words, by what they name
  abbrev pub RunsAsked : Option Asked → Type 0
  RunsAsked asked =
      ByVerdict limits readings.shapes (words_shapes before.inputs.text asked) before.patterns after.patterns
      (λ verdict. DataIsReadBy limits readings verdict asked before.inputs.text
      → LinesAreReadBy limits readings verdict asked before.inputs.text
      → let manner = manner_of limits readings (words_format asked) in
      let script = words_script before.inputs.text asked in
      let opening = files_opening readings verdict asked before.inputs.text in
      Serves (λ loads. option_and_then (opening_output manner loads script) opening)
      (λ loads. IfSome opening
      (AreOpeningLoaded (IsCutShort status) manner (words_library asked before.inputs.text)
      after.patterns.refused script loads))
      (λ loads. IfSome opening (λ o.
      StopsFed (opening_fed manner loads o) script (after.inputs.rest Script) before.sink after.sink))
      (OpensOnly readings verdict words before.inputs after.inputs) verdict status before after)

  words_open : (asked : Asked) → Some asked ≡ command_words words → (verdict : Verdict)
      → FilesOpenOnly readings verdict asked before.inputs after.inputs
      → OpensOnly readings verdict words before.inputs after.inputs
  words_open asked same verdict only = record {
    data_text = λ opened. rw (← same) (only.data_text opened);
    script = λ opened. rw (← same) (only.script opened);
  }

  pub words_run : (asked : Asked) → Some asked ≡ command_words words
      → RunsFiles limits readings asked before after status
      → RunsWords limits readings words before after status
  words_run asked same runs = elim runs [
    | inl by ↦
        let as_asked : RunsAsked (Some asked) = ByVerdict-then limits readings.shapes
        (before.inputs.text asked.files.shapes_file) before.patterns after.patterns _ _
        (λ verdict says right lines.
        let serves = says right lines in
        record { by = serves.by; opened = words_open asked same verdict serves.opened }) by in
        inl (subst RunsAsked same as_asked)
    | inr early ↦ inr early
  ]
