-- What a run promises, by how it ends.
use Rattle.std.proofs.Common.{◌≡◌, ◌≢◌, ℕ, ◌-◌, List, [], ◌∷◌, ◌++◌, Option, None, Some, length}
use Rattle.std.proofs.Common.{refl, ap, subst, inl, inr, arith}
use Rattle.std.specs.Prelude.{IfSome, ◌⊎◌}
use Rattle.shx_outside.specs.Outside.{PatternState}
use Rattle.shx_outside.specs.Told.{Grew, Fell}
use Rattle.shx_term.specs.declared.limits.Limits.{Limits}
use Rattle.text_output.specs.declared.format.Format.{Format}
use Rattle.text_output.specs.Writes.{Put}
use Rattle.shacl_run.specs.declared.status.Status.{Status}
use Rattle.shacl_run.specs.declared.status.Status.TheVariants.{Conforms, Violates, BadWords, Refused}
use Rattle.shacl_run.specs.declared.status.Status.TheVariants.{InputFault, WriteFault, Memory, LinesRefused}
use Rattle.shacl_run.specs.inner.Ends.{PutsWhole, PutsFront, Ends, EndsByPattern}
use Rattle.shacl_run.specs.inner.Files.{RunsWords}
use Rattle.shacl_run.specs.Outside.{Outside}
use Rattle.shacl_run.specs.Readings.{Readings}
use Rattle.shape_text.specs.TextReadings.{TextReading}
use Rattle.shacl_run.specs.Run.{Output, run_output, words_format}
use Rattle.shacl_run.specs.RunClauses.{ByVerdict, WritesWhole, WritesFront, Writes, ReadsAll}
use Rattle.shacl_run.specs.RunClauses.{HasCauses, IsRead, OpensInTurn, StaysWithin, TellsRefusal, IsRun}
use Rattle.shacl_run.specs.RunClauses.{ShapesAreReadBy}
use Rattle.shacl_run.specs.Status.{IsAnswered, IsReported, IsCutShort}
use Rattle.shape_text.specs.Verdict.{Verdict}
use Rattle.script_run.specs.Work.{Work, evaluating, no_work}
use Rattle.command_words.specs.Words.{command_words}
use Rattle.shacl_run.proofs.EndLemmas.{cut_or_answered}

answered_or_cut : (status : Status) → IsAnswered status ⊎ IsCutShort status
answered_or_cut Conforms = inl tt
answered_or_cut Violates = inl tt
answered_or_cut BadWords = inl tt
answered_or_cut Refused = inl tt
answered_or_cut InputFault = inr tt
answered_or_cut WriteFault = inr tt
answered_or_cut Memory = inr tt
answered_or_cut LinesRefused = inl tt

-- ---- one output for all that is said of it

-- an output, which is the one that is due where it is told
record Written (due : Option Output) (status : Status) (before after : Outside) : Type 0 where
  output : Output
  is : IfSome due (λ defined. output ≡ defined)
  exact : IsAnswered status → WritesWhole output before after status
  prefix : IsCutShort status → WritesFront output before.sink after.sink status

module _ (status : Status) (before after : Outside) where
  -- where no output is told, one that begins with what was put, and takes the work that was counted
  untold_whole : IsAnswered status → PutsWhole None status before after → Written None status before after
  untold_whole answered puts = record {
    output = record {
      text = puts.written;
      status = status;
      work = evaluating (after.steps - before.steps) (after.nested - before.nested);
    };
    is = tt;
    exact = λ _. record {
      status_is = refl;
      put = puts.put;
      evaluations = λ reported. omega (arith, (puts.risen reported).evaluated);
      nested_evaluations = λ reported. omega (arith, (puts.risen reported).nested);
    };
    prefix = λ cut. absurd (cut_or_answered status answered cut);
  }

  untold_front : IsCutShort status → PutsFront None status before.sink after.sink
      → Written None status before after
  untold_front cut puts = record {
    output = record { text = puts.written ++ 0 ∷ []; status = status; work = no_work };
    is = tt;
    exact = λ answered. absurd (cut_or_answered status answered cut);
    prefix = λ _. record {
      front = puts.written;
      rest = 0 ∷ [];
      whole = refl;
      proper = λ _ none. cc;
      grew = puts.grew;
      fell = puts.fell;
    };
  }

  written : (due : Option Output) → Ends due status before after → Written due status before after
  written None run_ends = elim (answered_or_cut status) [
    | inl answered ↦ untold_whole answered (run_ends.whole answered)
    | inr cut ↦ untold_front cut (run_ends.front cut)
  ]
  written (Some output) run_ends = record {
    output = output;
    is = refl;
    exact = λ answered.
        let puts = run_ends.whole answered in
        record {
          status_is = puts.defined.0;
          put = subst (Put before.sink after.sink) puts.defined.1 puts.put;
          evaluations = λ reported. ap (λ (w : Work). w.evaluated) (puts.defined.2 reported);
          nested_evaluations = λ reported. ap (λ (w : Work). w.nested) (puts.defined.2 reported);
        };
    prefix = λ cut.
        let puts = run_ends.front cut in
        record {
          front = puts.written;
          rest = puts.begins.0;
          whole = puts.begins.1;
          proper = puts.begins.2;
          grew = puts.grew;
          fell = puts.fell;
        };
  }

  -- ---- what failed

  -- bytes were put behind what the sink held; where the count of refused patterns did not stay, they tell of
  -- one
  record HasPut (format : Format) : Type 0 where
    bytes : List ℕ
    grew : Grew before.sink.held after.sink.held bytes
    fell : Fell before.sink.room after.sink.room (length bytes)
    tells : IsAnswered status → after.patterns.faults ≢ before.patterns.faults
        → (status ≡ Refused) × TellsRefusal format bytes

  put_answered : (format : Format) → IsAnswered status → Ends None status before after
      → EndsByPattern format status before after → HasPut format
  put_answered format answered run_ends by = elim by [
    | inl same ↦
        let puts = run_ends.whole answered in
        record {
          bytes = puts.written;
          grew = puts.put.grew;
          fell = puts.put.fell;
          tells = λ _ other. absurd (other same);
        }
    | inr told ↦
        let (front, terms, shape, ends) = told in
        let puts = ends.whole answered in
        record {
          bytes = puts.written;
          grew = puts.put.grew;
          fell = puts.put.fell;
          tells = λ _ _. (
            puts.defined.0,
            record { front = front; terms = terms; shape = shape; is = puts.defined.1 },
          );
        }
  ]

  has_put : (format : Format) → Ends None status before after
      → EndsByPattern format status before after ⊎ IsCutShort status → HasPut format
  has_put format run_ends by = elim (answered_or_cut status) [
    | inl answered ↦ elim by [
      | inl by_pattern ↦ put_answered format answered run_ends by_pattern
      | inr cut ↦ absurd (cut_or_answered status answered cut)
    ]
    | inr cut ↦
        let puts = run_ends.front cut in
        record {
          bytes = puts.written;
          grew = puts.grew;
          fell = puts.fell;
          tells = λ answered. absurd (cut_or_answered status answered cut);
        }
  ]

-- ---- by a verdict

-- what follows by each verdict follows by the one of the shapes
pub ByVerdict-then : (limits : Limits) (shapes : TextReading) (text : Option (List ℕ))
    (before after : PatternState) (Says More : Verdict → Type 0)
    → ((verdict : Verdict) → Says verdict → More verdict)
    → ByVerdict limits shapes text before after Says → ByVerdict limits shapes text before after More
ByVerdict-then limits shapes text before after Says More more by = record {
  verdict = by.verdict;
  judged = by.judged;
  patterns = by.patterns;
  refused = by.refused;
  says = more by.verdict by.says;
}

-- ---- what a run promises

module _ (limits : Limits) (words : List (List ℕ)) (before after : Outside) (status : Status) where
  writes : (readings : Readings) → RunsWords limits readings words before after status
      → Writes limits readings words before after status
  writes readings runs = elim runs [
    | inl by ↦ inl (ByVerdict-then limits readings.shapes _ before.patterns after.patterns _ _
        (λ verdict says right lines.
        let serves = says right lines in
        let ended = serves.by in
        record {
          told = ended.told;
          right = ended.right;
          writes = λ rest.
              let w = written status before after
              (run_output limits readings verdict (ended.told ++ rest) words before.inputs.text)
              (ended.run_ends rest) in
              record { output = w.output; due = w.is; exact = w.exact; prefix = w.prefix };
          patterns = ended.patterns;
          script_stops = ended.stops;
          opened = serves.opened;
        }) by)
    | inr early ↦ inr early
  ]

  has_causes : Ends None status before after
      → EndsByPattern (words_format (command_words words)) status before after ⊎ IsCutShort status
      → HasCauses words before after status
  has_causes run_ends by =
      let put = has_put status before after (words_format (command_words words)) run_ends by in
      let causes = run_ends.causes in
      record {
        bytes = put.bytes;
        grew = put.grew;
        fell = put.fell;
        input_fault = causes.input_fault;
        write_fault = causes.write_fault;
        used_up = causes.used_up;
        quiet_inputs = causes.quiet_inputs;
        quiet_sink = causes.quiet_sink;
        quiet_patterns = put.tells;
      }

  pub IsRun-ended : ((readings : Readings)
      → ShapesAreReadBy limits readings (command_words words) before.inputs.text
      → RunsWords limits readings words before after status)
      → Ends None status before after
      → EndsByPattern (words_format (command_words words)) status before after ⊎ IsCutShort status
      → (IsAnswered status → IsRead limits words before after)
      → (IsReported status
      → IfSome (command_words words) (λ asked. ReadsAll limits asked.files before.inputs after.inputs))
      → OpensInTurn before.inputs after.inputs status
      → StaysWithin limits before.inputs after.inputs → IsRun limits words before after status
  IsRun-ended runs causes by read read_to_end opened within = record {
    writes = λ readings right. writes readings (runs readings right);
    read = read;
    read_to_end = read_to_end;
    causes = has_causes causes by;
    opened = opened;
    within = within;
  }
