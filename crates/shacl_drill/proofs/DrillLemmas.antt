-- From the promise of a run over the texts of a drill to that of the drill.
use Rattle.std.specs.Prelude.{◌⊎◌, Option, None, Some, IfSome, IsSome, IsSomeAnd}
use Rattle.std.specs.Option.{option_and_then}
use Rattle.std.proofs.Common.{◌≡◌, ◌≢◌, ℕ, List, [], ◌++◌, refl, sym, ap, subst, ◌∙◌, inl, inr}
use Rattle.std.proofs.lemmas.Option.{same_Some}
use Rattle.std.proofs.lemmas.Bool.{false≢true}
use Rattle.shx_outside.specs.MemorySink.{MemoryHeld, sink_told}
use Rattle.shx_outside.specs.Outside.{InputState, PatternState, SinkState}
use Rattle.shx_outside.specs.OpenTexts.{bytes_named}
use Rattle.shx_term.specs.Limits.{program_limits}
use Rattle.shx_term.specs.declared.limits.Limits.{Limits}
use Rattle.graph_view.specs.Graph.{Graph}
use Rattle.text_output.specs.declared.format.Format.{Format}
use Rattle.command_words.specs.Asked.{Asked}
use Rattle.command_words.specs.Words.{command_words}
use Rattle.shacl_run.specs.declared.status.Status.{Status}
use Rattle.shacl_run.specs.declared.status.Status.TheVariants.{Conforms, Violates, BadWords, Refused}
use Rattle.shacl_run.specs.declared.status.Status.TheVariants.{InputFault, WriteFault, Memory, LinesRefused}
use Rattle.script_run.specs.Load.{Load}
use Rattle.script_run.specs.Manner.{Manner}
use Rattle.shacl_run.specs.Outside.{Outside}
use Rattle.shacl_run.specs.Readings.{Readings}
use Rattle.shape_text.specs.TextReadings.{TextReading, States, Faulty, Long, stated_graph}
use Rattle.shacl_run.specs.Run.{Opening, Output, ends, opens, files_opening, opening_output}
use Rattle.shape_text.specs.Verdict.{passed_over, Verdict, plans, stops}
use Rattle.shacl_run.specs.Run.{run_output, script_text, with_data, with_shapes}
use Rattle.shacl_run.specs.Run.{with_verdict, words_manner, words_script}
use Rattle.script_run.specs.ScriptState.{ScriptState}
use Rattle.shacl_run.specs.RunClauses.{DataIsReadBy, IsRun, LinesAreReadBy, WritesDue, WritesWhole}
use Rattle.shacl_run.specs.Status.{IsAnswered, IsReported, status_number}
use Rattle.shacl_run.proofs.CompleteLemmas.{all_told as all_told_of, writes_alone}
use Rattle.shacl_run.proofs.EndLemmas.{cut_or_answered}
use Rattle.shacl_run.proofs.RunLemmas.{ByVerdict-then}
use Rattle.shacl_drill.specs.Clauses.{EndsSilent, Surroundings, Tells, TellsDue, TellsOf}
use Rattle.shacl_drill.specs.Clauses.{IsDrill, TellsRun, surroundings}
use Rattle.shacl_drill.specs.Size.{AskFor, AskForNone}
use Rattle.shacl_drill.specs.Summary.{summary, usage_text}
use Rattle.shacl_drill.specs.Texts.{named_texts, run_words, texts}
use Rattle.shacl_drill.specs.inner.Ran.{IsRanOver, outside_of}
use Rattle.shacl_drill.specs.inner.Told.{SumsUp, TellsEnd}
use Rattle.shacl_drill.proofs.SizeLemmas.{one_size}

-- ---- where all texts are told, there is an output

module _ (limits : Limits) (readings : Readings) (verdict : Verdict) (loads : List Load)
    (told : List ℕ → List ℕ) where
  abbrev all_told : List ℕ → Option (List ℕ)
  all_told name = Some (told name)

  script_told : (manner : Manner) (notices : ℕ) (s : ScriptState) (name : Option (List ℕ))
      → IsSome (opening_output manner loads (script_text all_told name) (opens notices s))
  script_told manner notices s None = refl
  script_told manner notices s (Some name) = refl

  output_of : (manner : Manner) (asked : Option Asked) (opening : Opening)
      → IsSome (opening_output manner loads (words_script all_told asked) opening)
  output_of manner asked (ends output) = refl
  output_of manner None (opens notices s) = refl
  output_of manner (Some words) (opens notices s) = script_told manner notices s words.files.script_file

  abbrev output_by : Manner → Option Asked → Option Opening → Option Output
  output_by manner asked = option_and_then (opening_output manner loads (words_script all_told asked))

  verdict_told : (manner : Manner) (asked : Option Asked) (format : Format) (g : Graph) (given : Verdict)
      (bytes : List ℕ)
      → IsSome (output_by manner asked (with_verdict format readings g given (Some bytes)))
  verdict_told manner asked format g (plans plan) bytes =
      output_of manner asked (with_data format (passed_over g) plan readings.data_text)
  verdict_told manner asked format g (stops obstacle) bytes = refl

  shapes_told : (manner : Manner) (asked : Option Asked) (format : Format) (shapes : TextReading)
      (bytes : List ℕ)
      → IsSome (output_by manner asked (with_shapes format readings verdict shapes (Some bytes)))
  shapes_told manner asked format (States document end) bytes =
      verdict_told manner asked format (stated_graph document) verdict bytes
  shapes_told manner asked format (Faulty code at) bytes = refl
  shapes_told manner asked format Long bytes = refl

  files_told : (manner : Manner) (asked : Option Asked)
      → IsSome (output_by manner asked (files_opening readings verdict asked all_told))
  files_told manner None = refl
  files_told manner (Some words) =
      shapes_told manner (Some words) words.format readings.shapes (told words.files.data_file)

  output_is_told : (words : List (List ℕ)) → IsSome (run_output limits readings verdict loads words all_told)
  output_is_told words = files_told (words_manner limits readings words) (command_words words)

-- ---- how a drill ends behind a run that answered

-- the run answered, and its end is told of
record IsTold (n : ℕ) (ended : Status) (text : List ℕ) (before after : SinkState) (status : Status) : Type 0
  where
    answered : IsAnswered ended
    refused : ended ≡ Refused → EndsSilent Refused before after status
    reported : ended ≢ Refused → IsReported ended
    told : ended ≢ Refused → Tells (summary n text (status_number ended)) Conforms before after status

module _ (n : ℕ) (text : List ℕ) (before after : SinkState) (status : Status) where
  abbrev Ending : Status → Type 0
  Ending ended = EndsSilent Memory before after status ⊎ IsTold n ended text before after status

  sums_up : (ended : Status) → IsAnswered ended → IsReported ended → (ended ≡ Refused → ⊥)
      → SumsUp (summary n text (status_number ended)) before after status → Ending ended
  sums_up ended answered reported other sums = elim sums [
    | inl memory ↦ inl memory
    | inr told ↦ inr (record {
      answered = answered;
      refused = λ is. absurd (other is);
      reported = λ _. reported;
      told = λ _. told;
    })
  ]

  ending : (ended : Status) → TellsEnd n ended text before after status → Ending ended
  ending Conforms sums = sums_up Conforms tt tt (λ is. cc) sums
  ending Violates sums = sums_up Violates tt tt (λ is. cc) sums
  ending LinesRefused sums = sums_up LinesRefused tt tt (λ is. cc) sums
  ending Refused silent = inr (record {
    answered = tt;
    refused = λ _. silent;
    reported = λ other. absurd (other refl);
    told = λ other. absurd (other refl);
  })
  ending BadWords memory = inl memory
  ending InputFault memory = inl memory
  ending WriteFault memory = inl memory
  ending Memory memory = inl memory

-- ---- what is due of the run is told of

some_told : (due : Option Output) (output : Output) (Says : Output → Type 0) → IsSome due
    → IfSome due (λ defined. output ≡ defined) → Says output → IsSomeAnd due Says
some_told None output Says some is says = absurd (false≢true some)
some_told (Some defined) output Says some is says = subst Says is says

module _ (n : ℕ) (ended status : Status) (held held' : MemoryHeld) (sink sink' : SinkState)
    (patterns patterns' : PatternState) (nested nested' steps steps' : ℕ) where
  abbrev before : Surroundings
  before = surroundings sink patterns nested steps

  abbrev after : Surroundings
  after = surroundings sink' patterns' nested' steps'

  abbrev run_before : InputState → Outside
  run_before inputs = outside_of inputs (surroundings (sink_told held) patterns nested steps)

  abbrev run_after : InputState → Outside
  run_after inputs = outside_of inputs (surroundings (sink_told held') patterns' nested' steps')

  module _ (empty : held.bytes ≡ []) (is : IsTold n ended held'.bytes sink sink' status)
      (first last : InputState) where
    tells_of : (output : Output) → WritesWhole output (run_before first) (run_after last) ended
        → TellsOf n output before after status
    tells_of output whole =
        let text = same_Some _ _ (whole.put.grew.told held.bytes refl)
        ∙ ap (λ front. front ++ output.text) empty in
        record {
          refused = λ same. is.refused (whole.status_is ∙ same);
          told = λ other.
              subst (λ how. Tells (summary n output.text (status_number how)) Conforms sink sink' status)
              whole.status_is
              (subst (λ bytes. Tells (summary n bytes (status_number ended)) Conforms sink sink' status) text
              (is.told (λ same. other (sym whole.status_is ∙ same))));
          evaluations = λ other. whole.evaluations (is.reported (λ same. other (sym whole.status_is ∙ same)));
          nested_evaluations = λ other.
              whole.nested_evaluations (is.reported (λ same. other (sym whole.status_is ∙ same)));
        }

  module _ (empty : held.bytes ≡ []) (is : IsTold n ended held'.bytes sink sink' status)
      (first last : InputState) where
    abbrev inputs : InputState
    inputs = record first { text = texts n }

    tells_due : (readings : Readings) (verdict : Verdict)
        → (DataIsReadBy program_limits readings verdict (command_words run_words) (texts n)
        → LinesAreReadBy program_limits readings verdict (command_words run_words) (texts n)
        → WritesDue program_limits readings verdict run_words (run_before inputs) (run_after last) ended)
        → TellsDue n readings before after status verdict
    tells_due readings verdict writes right lines =
        let due = writes right lines in
        let from = run_before inputs in
        let to = run_after last in
        let alone = writes_alone program_limits run_words from to ended due in record {
          loads = due.told;
          right = all_told_of program_limits run_words from to ended is.answered due;
          told = some_told _ alone.output (λ output. TellsOf n output before after status)
              (output_is_told program_limits readings verdict due.told (bytes_named (named_texts n))
              run_words)
              alone.due (tells_of empty is inputs last alone.output (alone.exact is.answered));
        }

    tells_run : IsRun program_limits run_words (run_before inputs) (run_after last) ended
        → TellsRun n before after status
    tells_run runs = record {
      read =
          let read = runs.read is.answered in record {
            readings = read.readings;
            shapes = read.shapes;
            verdict = read.verdict;
            judged = read.judged;
            data_text = read.data_text;
            lines = read.lines;
          };
      due = λ readings shapes. elim (runs.writes readings shapes) [
        | inl by ↦ ByVerdict-then program_limits readings.shapes _ patterns patterns' _ _
            (tells_due readings) by
        | inr early ↦ absurd (cut_or_answered ended is.answered early.cut)
      ];
    }

  -- a drill whose run was made over an empty sink, and whose end is told of
  pub drilled : held.bytes ≡ []
      → IsRanOver n (surroundings (sink_told held) patterns nested steps)
      (surroundings (sink_told held') patterns' nested' steps') ended
      → TellsEnd n ended held'.bytes sink sink' status
      → EndsSilent Memory sink sink' status ⊎ TellsRun n before after status
  drilled empty ran told = elim (ending n held'.bytes sink sink' status ended told) [
    | inl memory ↦ inl memory
    | inr is ↦
        let runs = subst (λ (text : List ℕ → Option (List ℕ)). IsRun program_limits run_words
        (run_before (record ran.first { text = text })) (run_after ran.last) ended) ran.held ran.is in
        inr (tells_run empty is ran.first ran.last runs)
  ]

-- ---- by what the words ask for

pub drilled_none : (words : List (List ℕ)) (before after : Surroundings) (status : Status)
    → AskForNone words → Tells usage_text BadWords before.sink after.sink status
    → IsDrill words before after status
drilled_none words _ _ status none told = record {
  usage = λ _. told;
  run = λ n asked. absurd (none n asked);
}

pub drilled_size : (words : List (List ℕ)) (n : ℕ) (before after : Surroundings) (status : Status)
    → AskFor words n → EndsSilent Memory before.sink after.sink status ⊎ TellsRun n before after status
    → IsDrill words before after status
drilled_size words n before after status asked told = record {
  usage = λ none. absurd (none n asked);
  run = λ m other.
      subst (λ size. EndsSilent Memory before.sink after.sink status ⊎ TellsRun size before after status)
      (one_size words n m asked other) told;
}
