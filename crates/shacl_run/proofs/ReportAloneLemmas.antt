-- What is due of a run without a script.
use Rattle.std.proofs.Common.{◌≡◌, ◌≢◌, ◌↔◌, ℕ, List, [], ◌∷◌, Option, None, Some, refl, sym, ap, subst}
use Rattle.std.proofs.Common.{◌∙◌}
use Rattle.std.specs.Option.{option_and_then, option_map}
use Rattle.std.specs.Prelude.{IfSome}
use Rattle.std.proofs.lemmas.Option.{same_Some}
use Rattle.comp_core.specs.declared.row.ResultRow.{ResultRow}
use Rattle.shape_eval.specs.Report.{report}
use Rattle.shx_term.specs.declared.limits.Limits.{Limits}
use Rattle.command_words.specs.Asked.{Asked}
use Rattle.command_words.specs.Words.{command_words}
use Rattle.shape_text.specs.Verdict.{Verdict}
use Rattle.script_run.specs.Load.{Load}
use Rattle.script_run.specs.Manner.{Manner}
use Rattle.script_run.specs.ScriptState.{ScriptState, with_loads}
use Rattle.shacl_run.specs.Readings.{Readings}
use Rattle.shacl_run.specs.ReportAlone.{IsReportAlone}
use Rattle.shacl_run.specs.Run.{Opening, Output, files_opening, opening, opening_output, run_output}
use Rattle.shacl_run.specs.Run.Opening.{opens}
use Rattle.shacl_run.specs.Run.{manner_of, script_text, status_of_rows, validation_output, words_format}
use Rattle.shacl_run.specs.Run.{words_script}
use Rattle.shacl_run.specs.Status.{status_number}
use Rattle.shacl_run.proofs.FilesLemmas.{opens_texts}
use Rattle.shacl_run.proofs.ValidationRunLemmas.{alone, validation_alone}

conforms_where_empty : (rows : List ResultRow) → (status_number (status_of_rows rows) ≡ 0) ↔ (rows ≡ [])
conforms_where_empty [] = (λ _. refl, λ _. refl)
conforms_where_empty (row ∷ rows) = (λ is. absurd (cc), λ is. absurd (cc))

violates_where_not : (rows : List ResultRow) → (status_number (status_of_rows rows) ≡ 1) ↔ (rows ≢ [])
violates_where_not [] = (λ is. absurd (cc), λ some. absurd (some refl))
violates_where_not (row ∷ rows) = (λ _ is. cc, λ _. refl)

-- what is due of a state that no line has changed, whatever comes of texts that no line loads
alone_tells : (manner : Manner) (notices : ℕ) (loads : List Load) (s : ScriptState)
    → IsReportAlone manner.format notices s (alone manner.format notices (with_loads loads s))
alone_tells manner notices loads s = record {
  text = refl;
  conforms = conforms_where_empty (report s.plan s.graph);
  violates = violates_where_not (report s.plan s.graph);
}

module _ (limits : Limits) (readings : Readings) (verdict : Verdict) (loads : List Load)
    (texts : List ℕ → Option (List ℕ)) (notices : ℕ) (s : ScriptState) (output : Output) where
  abbrev due_of : Option Asked → Option Opening → Option Output
  due_of asked opened =
      option_and_then (opening_output (manner_of limits readings (words_format asked)) loads
      (words_script texts asked)) opened

  by_files : (asked : Asked) → asked.files.script_file ≡ None
      → files_opening readings verdict (Some asked) texts ≡ Some (opens notices s)
      → due_of (Some asked) (Some (opens notices s)) ≡ Some output
      → IsReportAlone asked.format notices s output
  by_files asked none opened due =
      let manner = manner_of limits readings asked.format in
      let start = with_loads loads s in
      let from = opens_texts asked.format readings notices s verdict (texts asked.files.shapes_file)
      (texts asked.files.data_file)
      (subst (λ told. IfSome told (λ opening. opening ≡ opens notices s)) (sym opened) refl)
      (opens notices s) opened in
      let whole : Some (validation_output manner notices start []) ≡ Some output =
      subst (λ script. option_map (validation_output manner notices start) (script_text texts script)
      ≡ Some output) none due in
      subst (IsReportAlone asked.format notices s)
      (sym (validation_alone manner notices start
      (sym (ap (λ (s : ScriptState). s.refused) from.start))
      (sym (ap (λ (s : ScriptState). s.group) from.start))
      (sym (ap (λ (s : ScriptState). s.halted) from.start)))
      ∙ same_Some _ _ whole)
      (alone_tells manner notices loads s)

  pub reports_alone : (words : List (List ℕ)) (asked : Asked) → command_words words ≡ Some asked
      → asked.files.script_file ≡ None → opening readings verdict words texts ≡ Some (opens notices s)
      → run_output limits readings verdict loads words texts ≡ Some output
      → IsReportAlone asked.format notices s output
  reports_alone words asked is none opened due =
      by_files asked none
      (subst (λ asked. files_opening readings verdict asked texts ≡ Some (opens notices s)) is opened)
      (subst (λ told. due_of (Some asked) told ≡ Some output) opened
      (subst (λ asked. due_of asked (opening readings verdict words texts) ≡ Some output) is due))
