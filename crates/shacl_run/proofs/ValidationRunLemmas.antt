-- A report is written, and then its script is answered.
use Rattle.std.proofs.Common.{◌≡◌, ℕ, Bool, false, nat_lt, if◌then◌else◌, List, [], ◌++◌, Option, None, Some}
use Rattle.std.proofs.Common.{Result, Ok, Err}
use Rattle.std.proofs.Common.{refl, sym, ap, ◌∙◌, subst, append-nil, arith}
use Rattle.std.proofs.lemmas.Bool.Decides.{nat_tests}
use Rattle.std.proofs.lemmas.List.Elements.{All-nil}
use Rattle.std.proofs.lemmas.Option.{IfSome_then}
use Rattle.std.specs.Prelude.{All, IfSome}
use Rattle.std.specs.Option.{option_map, option_and_then}
use Rattle.shx_outside.specs.declared.role.Role.TheVariants.{Script}
use Rattle.shx_outside.specs.Outside.{FlaggedText, InputState, PatternState, SinkState}
use Rattle.shx_outside.proofs.ToldLemmas.{Grew-then}
use Rattle.shx_term.specs.declared.limits.Limits.{Limits}
use Rattle.text_input.specs.Lines.{script_lines}
use Rattle.text_input.proofs.ScriptLineLemmas.{script_lines-none}
use Rattle.text_output.specs.declared.format.Format.{Format}
use Rattle.text_output.specs.Writes.{Put, FellShort}
use Rattle.ttl_meaning.specs.State.{State}
use Rattle.script_lines.specs.declared.fault.LineFault.TheVariants as line_fault
use Rattle.script_run.specs.declared.validation.Validation.{Validation}
use Rattle.shacl_run.specs.declared.status.Status.{Status}
use Rattle.shacl_run.specs.declared.status.Status.TheVariants.{WriteFault}
use Rattle.shape_text.specs.declared.stop.Stop.{Stop}
use Rattle.shape_text.specs.declared.stop.Stop.TheVariants.{Input, Write, Memory}
use Rattle.shacl_run.specs.inner.Ends.{Ends}
use Rattle.shape_eval.specs.Report.{report}
use Rattle.shacl_run.specs.Run.{Output, Opening, behind, end_of_line, end_of_script, ending, output_from}
use Rattle.shacl_run.specs.Run.{script_text, validation_output}
use Rattle.shacl_run.specs.Outside.{Outside, counts}
use Rattle.script_run.specs.Script.{first_work}
use Rattle.shacl_run.specs.Run.{dropped_text, fed_text, first_text}
use Rattle.shacl_run.specs.Run.{opening_output, opening_fed, status_of_rows}
use Rattle.script_run.specs.Load.{Load}
use Rattle.script_run.specs.Loaded.{AreLinesLoaded, Library}
use Rattle.script_run.specs.Manner.{Manner}
use Rattle.script_run.specs.Replies.{is_any_refused}
use Rattle.script_run.specs.LineReadings.{IsReadBehind}
use Rattle.shacl_run.specs.Loads.{AreOpeningLoaded}
use Rattle.shacl_run.specs.Run.Opening.{ends, opens}
use Rattle.shacl_run.specs.RunClauses.{IsOpenedBy, StopsFed}
use Rattle.shacl_run.specs.Status.{IsCutShort}
use Rattle.script_run.specs.Script.{Served, serve_lines}
use Rattle.script_run.specs.ScriptState.{ScriptState, with_loads}
use Rattle.shacl_run.specs.inner.Serving.{AreLoadedAt, due_at, HaveReadings, Prefixed, PutsReport, RunsScript}
use Rattle.shacl_run.specs.inner.Serving.{ServesScript}
use Rattle.shacl_run.specs.inner.Stops.{end_status}
use Rattle.shape_text.specs.Verdict.{RoseWhere}
use Rattle.script_run.specs.Stored.{IsStart, IsValidation}
use Rattle.script_run.specs.Work.{Work, and_then, no_work}
use Rattle.shacl_run.proofs.EndLemmas.{Ends-after, Ends-beside, Ends-memory, Ends-short, Ends-whole}
use Rattle.shacl_run.proofs.LoadedLinesLemmas.{lines_missing}
use Rattle.shacl_run.proofs.ServedLemmas.{rows_answered}
use Rattle.script_run.proofs.WorkLemmas.{NoneFell-by, and_then-no_work}

-- what is put in the format of a validation is put in that of the run
pub puts_in : (manner : Manner) (s : ScriptState) (validation : Validation) (before after : SinkState)
    (work work' : Work) (r : Result Status Stop) → IsValidation manner.limits manner.format s validation
    → ((limits : Limits) (s : ScriptState) → IsValidation limits validation.format s validation
    → PutsReport validation.format validation.passed_over s before after work work' r)
    → PutsReport manner.format validation.passed_over s before after work work' r
puts_in manner s validation before after work work' r is puts =
    let own : IsValidation manner.limits validation.format s validation =
    subst (λ (format : Format). IsValidation manner.limits format s validation) (sym is.format_is) is in
    subst (λ (format : Format). PutsReport format validation.passed_over s before after work work' r)
    is.format_is (puts manner.limits s own)

-- what holds where something is due holds in any case
pub in_any_case : (due : Option Output) (P : Type 0) → P → IfSome due (λ told. P)
in_any_case None P holds = tt
in_any_case (Some output) P holds = holds

module _ (format : Format) (notices : ℕ) (s : ScriptState) where
  -- the report was put, and then the run ended with what is due after it
  pub Ends-behind_report : (due later : Option Output)
      → IfSome due (Prefixed (first_text format notices s) (first_work s) later) → (status : Status)
      → (before within after : Outside) → Put before.sink within.sink (first_text format notices s)
      → within.inputs.faults ≡ before.inputs.faults → counts within ≡ and_then (counts before) (first_work s)
      → Ends later status within after → Ends due status before after
  Ends-behind_report due later prefixed status before within after put quiet worked run_ends =
      Ends-after (first_text format notices s) (first_work s) status before within after
      (record {
        put = put;
        inputs = quiet;
        risen = NoneFell-by (counts before) (counts within) (first_work s) worked;
      }) due later prefixed
      (in_any_case due (counts within ≡ and_then (counts before) (first_work s)) worked) run_ends

  -- the sink failed within the report
  pub Ends-within_report : (due later : Option Output)
      → IfSome due (Prefixed (first_text format notices s) (first_work s) later) → (before after : Outside)
      → after.inputs.faults ≡ before.inputs.faults
      → FellShort before.sink after.sink (first_text format notices s) → Ends due WriteFault before after
  Ends-within_report due later prefixed before after quiet short =
      Ends-short due (first_text format notices s) before after
      (IfSome_then due prefixed (λ told first. (first.rest.text, ap (λ (o : Output). o.text) first.whole)))
      quiet short

  -- where no script is named, the report is all that is due
  abbrev pub alone : Output
  alone = record {
    text = first_text format notices s;
    status = status_of_rows (report s.plan s.graph);
    work = first_work s;
  }

  pub Ends-unscripted : (due : Option Output) → IfSome due (λ told. told ≡ alone)
      → (r : Result Status Stop) (before after : Outside)
      → PutsReport format notices s before.sink after.sink (counts before) (counts after) r
      → after.inputs.faults ≡ before.inputs.faults → Ends due (end_status r) before after
  Ends-unscripted due told (Ok status) before after (put, is, worked) quiet =
      subst (λ status. Ends due status before after) (sym is)
      (Ends-whole due alone before after told (rows_answered (report s.plan s.graph))
      (record { inputs = quiet; counted = λ _. worked }) put)
  Ends-unscripted due told (Err Input) before after puts quiet = absurd puts
  Ends-unscripted due told (Err Memory) before after puts quiet =
      Ends-memory due before after (record { sink = puts; inputs = quiet })
  Ends-unscripted due told (Err Write) before after puts quiet =
      Ends-short due (first_text format notices s) before after
      (IfSome_then due told (λ output same. (
        [],
        ap (λ (o : Output). o.text) same ∙ sym (append-nil (first_text format notices s)),
      )))
      quiet puts

module _ (manner : Manner) (notices : ℕ) (s : ScriptState) where
  -- what is due is the report, and then what is due of the script
  pub validation_prefixed : (script : Option (List ℕ))
      → IfSome (option_map (validation_output manner notices s) script)
      (Prefixed (first_text manner.format notices s) (first_work s)
      (due_at manner s manner.limits.script script))
  validation_prefixed None = tt
  validation_prefixed (Some bytes) =
      record { rest = output_from manner s manner.limits.script bytes; is = refl; whole = refl }

  -- of an empty script nothing is due
  pub validation_alone : s.refused ≡ false → s.group ≡ None → s.halted ≡ false
      → validation_output manner notices s [] ≡ alone manner.format notices s
  validation_alone unrefused ungrouped running =
      let limit = manner.limits.script in
      let none : script_lines limit [] ≡ [] = script_lines-none limit in
      let within : nat_lt limit 0 ≡ false = grind (arith, nat_tests) in
      let first = first_text manner.format notices s in
      (λ i. behind first (first_work s) (served_output (within i) (serve_lines manner s (none i))))
      ∙ (λ i. behind first (first_work s) (behind [] no_work (last_output (running i))))
      ∙ (λ i. record {
        text = (ap (λ group. first ++ dropped_text manner.format s group) ungrouped ∙ append-nil first) i;
        status = status_of_unrefused i;
        work = and_then-no_work (first_work s) i;
      })
    where
      served_output : Bool → Served → Output
      served_output past served =
          behind served.text served.work (ending manner.format past served.state)

      last_output : Bool → Output
      last_output halted = if halted then end_of_line else end_of_script manner.format false s

      status_of_unrefused
          : (end_of_script manner.format false s).status ≡ status_of_rows (report s.plan s.graph)
      status_of_unrefused = rw unrefused refl

  -- what is fed after the report is fed behind it
  pub StopsFed-reported : (told : List Load) (script left : Option (List ℕ)) (s0 s1 s2 : SinkState)
      → Put s0 s1 (first_text manner.format notices s)
      → StopsFed (fed_text manner (with_loads told s)) script left s1 s2
      → StopsFed (opening_fed manner told (opens notices s)) script left s0 s2
  StopsFed-reported told script left s0 s1 s2 put stops = record {
    told = λ bytes is.
        let (taken, rest, left_is, whole, grew) = stops.told bytes is in
        (taken, rest, left_is, whole, Grew-then put.grew grew);
  }

-- ---- how a report ends with its script

module _ (manner : Manner) (notices : ℕ) (s : ScriptState) where
  missing_at : (Missing : Type 0) → Missing → (library : Library) (last : Option FlaggedText) (budget : ℕ)
      (script : Option (List ℕ)) → AreLoadedAt Missing manner library last (with_loads [] s) budget script
  missing_at Missing missing library last budget None = tt
  missing_at Missing missing library last budget (Some bytes) =
      lines_missing Missing missing manner library last (with_loads [] s) refl (script_lines budget bytes)

  -- cut short before a line was taken
  pub RunsScript-untold : (library : Library) (script : Option (List ℕ)) (status : Status)
      (before after : Outside) → IsCutShort status → after.patterns.faults ≡ before.patterns.faults
      → (IsOpenedBy before.inputs after.inputs Script → ⊥)
      → ((rest : List Load)
      → Ends (option_map (validation_output manner notices (with_loads rest s)) script) status before after)
      → RunsScript manner library notices s script status before after
  RunsScript-untold library script status before after cut same closed run_ends = record {
    told = [];
    right = missing_at (IsCutShort status) cut library after.patterns.refused manner.limits.script script;
    run_ends = run_ends;
    patterns = same;
    stops = λ failed opened. absurd (closed opened);
  }

  -- where no script is named
  pub RunsScript-unscripted : (library : Library) → IsStart s → (r : Result Status Stop)
      (before after : Outside)
      → PutsReport manner.format notices s before.sink after.sink (counts before) (counts after) r
      → after.inputs.faults ≡ before.inputs.faults → after.patterns.faults ≡ before.patterns.faults
      → (IsOpenedBy before.inputs after.inputs Script → ⊥)
      → RunsScript manner library notices s (Some []) (end_status r) before after
  RunsScript-unscripted library start r before after puts quiet same closed = record {
    told = [];
    right = subst (AreLinesLoaded (IsCutShort (end_status r)) manner library after.patterns.refused
        (with_loads [] s)) (sym (script_lines-none manner.limits.script)) refl;
    run_ends = λ rest.
        let t = with_loads rest s in
        Ends-unscripted manner.format notices s (Some (validation_output manner notices t []))
        (validation_alone manner notices t start.refused start.group start.halted) r before after puts quiet;
    patterns = same;
    stops = λ failed opened. absurd (closed opened);
  }

  -- the report was put, and then the script was answered
  pub RunsScript-served : (library library' : Library) → library' ≡ library → (budget : ℕ)
      → budget ≡ manner.limits.script → (script : Option (List ℕ)) (status : Status)
      (before within after : Outside) → within.inputs.rest Script ≡ script
      → Put before.sink within.sink (first_text manner.format notices s)
      → within.inputs.faults ≡ before.inputs.faults → counts within ≡ and_then (counts before) (first_work s)
      → within.patterns.faults ≡ before.patterns.faults
      → ServesScript manner library' s budget status within after
      → RunsScript manner library notices s script status before after
  RunsScript-served library library' same budget limit script status before within after left put quiet worked
      patterns serves' =
      subst (λ text. RunsScript manner library notices s text status before after) left (record {
        told = serves.told;
        right = serves.right;
        run_ends = λ rest.
            let t = with_loads (serves.told ++ rest) s in
            let text = within.inputs.rest Script in
            Ends-behind_report manner.format notices t (option_map (validation_output manner notices t) text)
            (due_at manner t manner.limits.script text) (validation_prefixed manner notices t text) status
            before within after put quiet worked (serves.run_ends rest);
        patterns = subst (λ n. RoseWhere (is_any_refused serves.told) n after.patterns.faults) patterns
            serves.patterns;
        stops = λ failed opened. StopsFed-reported manner notices s serves.told (within.inputs.rest Script)
            (after.inputs.rest Script) before.sink within.sink after.sink put (serves.stops failed);
      })
    where
      serves : ServesScript manner library s manner.limits.script status within after
      serves = subst (λ l. ServesScript manner l s manner.limits.script status within after) same
          (subst (λ n. ServesScript manner library' s n status within after) limit serves')

  -- the same of other inputs that failed as often, and of a host that refused as many patterns
  pub RunsScript-beside : (library : Library) (script : Option (List ℕ)) (status : Status)
      (before after : Outside) (inputs : InputState) (patterns : PatternState)
      → inputs.faults ≡ before.inputs.faults → patterns.faults ≡ before.patterns.faults
      → (IsOpenedBy before.inputs after.inputs Script → IsOpenedBy inputs after.inputs Script)
      → RunsScript manner library notices s script status
      (record before { inputs = inputs; patterns = patterns }) after
      → RunsScript manner library notices s script status before after
  RunsScript-beside library script status before after inputs patterns same same' by runs = record {
    told = runs.told;
    right = runs.right;
    run_ends = λ rest.
        Ends-beside
        (option_map (validation_output manner notices (with_loads (runs.told ++ rest) s)) script) status
        before after inputs after.inputs patterns after.patterns same refl (runs.run_ends rest);
    patterns = subst (λ n. RoseWhere (is_any_refused runs.told) n after.patterns.faults) same' runs.patterns;
    stops = λ failed opened. runs.stops failed (by opened);
  }

-- an empty script has no line that needs a reading
pub readings_empty : (limits : Limits) (end : State) (budget : ℕ) → HaveReadings limits end budget (Some [])
readings_empty limits end budget =
    let P : List ℕ → Type 0 = λ line. IsReadBehind limits end line (Err line_fault.Memory) in
    (λ line. Err line_fault.Memory, subst (All P) (sym (script_lines-none budget)) (All-nil P))

-- a script is the same, where the texts are
pub script_text-fixed : (texts texts' : List ℕ → Option (List ℕ)) (name : Option (List ℕ))
    → ((name : List ℕ) → texts' name ≡ texts name) → script_text texts' name ≡ script_text texts name
script_text-fixed texts texts' None same = refl
script_text-fixed texts texts' (Some name) same = same name

told_self : (due : Option Output) → IfSome due (λ output. due ≡ Some output)
told_self None = tt
told_self (Some output) = refl

-- what the two texts come to decides what is due
pub ended_told : (manner : Manner) (loads : List Load) (script : Option (List ℕ)) (opening : Option Opening)
    (output : Output) → IfSome opening (λ o. o ≡ ends output)
    → IfSome (option_and_then (opening_output manner loads script) opening) (λ told. Some output ≡ Some told)
ended_told manner loads script None output is = tt
ended_told manner loads script (Some opening) output is = rw is refl

pub opened_told : (manner : Manner) (loads : List Load) (script : Option (List ℕ)) (opening : Option Opening)
    (notices : ℕ) (s : ScriptState) → IfSome opening (λ o. o ≡ opens notices s)
    → IfSome (option_and_then (opening_output manner loads script) opening)
    (λ told. option_map (validation_output manner notices (with_loads loads s)) script ≡ Some told)
opened_told manner loads script None notices s is = tt
opened_told manner loads script (Some opening) notices s is =
    rw is (told_self (option_map (validation_output manner notices (with_loads loads s)) script))

pub opening_told : (opening : Option Opening) (notices : ℕ) (s : ScriptState) (P : Opening → Type 0)
    → IfSome opening (λ o. o ≡ opens notices s) → P (opens notices s) → IfSome opening P
opening_told None notices s P is holds = tt
opening_told (Some opening) notices s P is holds = subst P (sym is) holds

-- where they are refused, no text is loaded
pub ended_loaded : (Missing : Type 0) (manner : Manner) (library : Library) (last : Option FlaggedText)
    (script : Option (List ℕ)) (opening : Option Opening) (output : Output)
    → IfSome opening (λ o. o ≡ ends output)
    → IfSome opening (AreOpeningLoaded Missing manner library last script [])
ended_loaded Missing manner library last script None output is = tt
ended_loaded Missing manner library last script (Some opening) output is =
    subst (AreOpeningLoaded Missing manner library last script []) (sym is) refl
