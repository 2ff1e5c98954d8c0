-- How the answers to a script end.
use Rattle.std.proofs.Common.{◌≡◌, ◌≢◌, ℕ, Bool, true, false, List, [], ◌∷◌, Option, None, Some, Vec}
use Rattle.std.proofs.Common.{Result, Err, refl, sym, ap, ◌∙◌, subst}
use Rattle.std.specs.declared.alloc.Global.{Global}
use Rattle.std.specs.Option.{option_map}
use Rattle.std.specs.Prelude.{IfSome, if◌then◌else◌}
use Rattle.std.proofs.lemmas.Option.{IfSome_then}
use Rattle.shx_term.specs.declared.edit.Edit.{Edit}
use Rattle.shx_term.specs.declared.limits.Limits.{Limits}
use Rattle.comp_core.specs.declared.row.ResultRow.{ResultRow}
use Rattle.shape_eval.specs.Report.{report}
use Rattle.text_output.specs.declared.format.Format.{Format}
use Rattle.text_output.specs.inner.AddedLaws.{Put-none}
use Rattle.text_output.specs.Writes.{Put}
use Rattle.shape_text.specs.declared.stop.Stop.{Stop}
use Rattle.shape_text.specs.declared.stop.Stop.TheVariants.{Input, Write, Memory}
use Rattle.shape_text.specs.Stops.{StopCause}
use Rattle.script_run.specs.declared.script_run.ScriptRun.{ScriptRun}
use Rattle.script_run.specs.Load.{Load}
use Rattle.script_run.specs.ScriptState.{ScriptState, with_loads}
use Rattle.script_run.specs.Stored.{IsScriptRun}
use Rattle.script_run.specs.Work.{NoneFell, and_then, no_work}
use Rattle.script_run.proofs.WorkLemmas.{NoneFell-by, still_work}
use Rattle.shacl_run.specs.declared.status.Status.{Status}
use Rattle.shacl_run.specs.declared.status.Status.TheVariants.{Conforms, Violates, BadWords, Refused}
use Rattle.shacl_run.specs.declared.status.Status.TheVariants.{InputFault, WriteFault, LinesRefused}
use Rattle.shacl_run.specs.declared.status.Status.TheVariants.{Memory as no_memory}
use Rattle.shacl_run.specs.inner.Ends.{Ends}
use Rattle.shacl_run.specs.inner.Serving.{open_notice}
use Rattle.shacl_run.specs.inner.Stops.{end_status, stop_status}
use Rattle.shacl_run.specs.Outside.{Outside, counts}
use Rattle.shacl_run.specs.Run.{Output, dropped_text, status_of_rows}
use Rattle.shacl_run.specs.Status.{IsAnswered, IsReported}
use Rattle.shacl_run.proofs.EndLemmas.{answered_apart, cut_or_answered, Ends-after, Ends-input, Ends-memory}
use Rattle.shacl_run.proofs.EndLemmas.{IsStill, PutsFirst}
use Rattle.shacl_run.proofs.HaltedLemmas.{behind_nothing}

-- where nothing is put, nothing is put first
pub PutsFirst-none : (before within : Outside) → IsStill before within → counts within ≡ counts before
    → PutsFirst [] before within
PutsFirst-none before within still same = record {
  put = subst (λ sink. Put before.sink sink []) (sym still.sink) (Put-none before.sink);
  inputs = still.inputs;
  risen = NoneFell-by (counts before) (counts within) no_work
      (still_work (counts before) (counts within) same);
}

pub rows_answered : (rows : List ResultRow) → IsAnswered (status_of_rows rows)
rows_answered [] = tt
rows_answered (row ∷ rows) = tt

pub state_answered : (s : ScriptState) (refused : Bool)
    → IsAnswered (if refused then LinesRefused else status_of_rows (report s.plan s.graph))
state_answered s true = tt
state_answered s false = rows_answered (report s.plan s.graph)

-- the run ends with what is due, behind a line at which nothing is put
pub Ends-last : (due : Option Output) (output : Output) (status : Status) (before within after : Outside)
    → IfSome due (λ told. told ≡ output) → IsStill before within → counts within ≡ counts before
    → Ends (Some output) status within after → Ends due status before after
Ends-last due output status before within after told still same ends =
    Ends-after [] no_work status before within after (PutsFirst-none before within still same) due
    (Some output) (IfSome_then due told (λ one is. record {
      rest = output;
      is = refl;
      whole = is ∙ sym (behind_nothing output);
    })) (counted due) ends
  where
    counted : (due : Option Output)
        → IfSome due (λ told. counts within ≡ and_then (counts before) no_work)
    counted None = tt
    counted (Some told) = still_work (counts before) (counts within) same

-- the notice that is written is the one that is due
pub notice_is : (limits : Limits) (format : Format) (s : ScriptState) (script : ScriptRun)
    → IsScriptRun limits format s script → open_notice script.format script.engine.graph.terms script.group
    ≡ dropped_text format s s.group
notice_is limits format s script is =
    (λ i. open_notice (is.format_is i) (sym is.stores.terms i) script.group)
    ∙ waiting_notice script.group s.group is.group_is
  where
    waiting_notice : (group : Option (Vec Edit Global)) (waiting : Option (List Edit))
        → option_map (λ edits. edits.items) group ≡ waiting
        → open_notice format s.graph.terms group ≡ dropped_text format s waiting
    waiting_notice None waiting is = ap (dropped_text format s) is
    waiting_notice (Some edits) waiting is = ap (dropped_text format s) is

-- what comes of the texts that later lines load is not kept
pub IsScriptRun-beside : (limits : Limits) (format : Format) (s : ScriptState) (script : ScriptRun)
    (rest : List Load) → IsScriptRun limits format s script
    → IsScriptRun limits format (with_loads rest s) script
IsScriptRun-beside limits format s script rest is = record {
  stores = is.stores;
  names_are = is.names_are;
  plan_is = is.plan_is;
  kept_is = is.kept_is;
  group_is = is.group_is;
  history_is = is.history_is;
  line_is = is.line_is;
  refused_is = is.refused_is;
  halted_is = is.halted_is;
  triples = is.triples;
  terms = is.terms;
  format_is = is.format_is;
}

-- the run ended with a text that was put, whatever is due
pub Ends-answered : (status : Status) (text : List ℕ) (before after : Outside) → IsAnswered status
    → after.inputs.faults ≡ before.inputs.faults → Put before.sink after.sink text
    → NoneFell (counts before) (counts after) → Ends None status before after
Ends-answered status text before after answered quiet put risen = record {
  whole = λ _. record {
    written = text;
    put = put;
    risen = λ _. risen;
    defined = tt;
  };
  front = λ cut. absurd (cut_or_answered status answered cut);
  causes = record {
    input_fault = λ is. absurd (answered_apart status InputFault answered (λ no. no) is);
    write_fault = λ is. absurd (answered_apart status WriteFault answered (λ no. no) is);
    used_up = λ is. absurd (answered_apart status WriteFault answered (λ no. no) is);
    quiet_inputs = λ _. quiet;
    quiet_sink = λ _. put.quiet;
  };
}

-- the run ends where no further line could be taken
pub Ends-stopped : (T : Type 0) (due : Option Output) (stop : Stop) (before after : Outside)
    → after.sink ≡ before.sink → StopCause {T = T} before.inputs.faults after.inputs.faults (Err stop)
    → Ends due (stop_status stop) before after
Ends-stopped T due Input before after same cause = Ends-input due before after same cause
Ends-stopped T due Write before after same cause = absurd cause
Ends-stopped T due Memory before after same cause =
    Ends-memory due before after (record { sink = same; inputs = cause })

-- a run that gave its reports to the end was answered, and read its words
pub reported_answered : (status : Status) → IsReported status → IsAnswered status
reported_answered Conforms reported = tt
reported_answered Violates reported = tt
reported_answered LinesRefused reported = tt
reported_answered BadWords reported = absurd reported
reported_answered Refused reported = absurd reported
reported_answered InputFault reported = absurd reported
reported_answered WriteFault reported = absurd reported
reported_answered no_memory reported = absurd reported

pub reported_apart : (status other : Status) → IsReported status → (IsReported other → ⊥) → status ≢ other
reported_apart status other reported not_reported is = not_reported (subst IsReported is reported)

-- a run that is cut short says nothing of its words
pub stop_words : (stop : Stop) → stop_status stop ≢ BadWords
stop_words Input is = absurd (cc)
stop_words Write is = absurd (cc)
stop_words Memory is = absurd (cc)

-- and gives no report to the end
pub stop_unreported : (stop : Stop) → IsReported (stop_status stop) → ⊥
stop_unreported Input reported = reported
stop_unreported Write reported = reported
stop_unreported Memory reported = reported

-- a run that was cut short did not answer
pub cut_unanswered : (r : Result Status Stop) (stop : Stop) → r ≡ Err stop → IsAnswered (end_status r) → ⊥
cut_unanswered r Input is answered = subst (λ r. IsAnswered (end_status r)) is answered
cut_unanswered r Write is answered = subst (λ r. IsAnswered (end_status r)) is answered
cut_unanswered r Memory is answered = subst (λ r. IsAnswered (end_status r)) is answered
