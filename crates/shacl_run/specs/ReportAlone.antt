-- A run without a script: a report, and a status that tells whether it has results.
use Rattle.std.specs.Prelude.{◌≡◌, ◌≢◌, ◌↔◌, ℕ, []}
use Rattle.shape_eval.specs.Report.{report}
use Rattle.text_output.specs.declared.format.Format.{Format}
use Rattle.script_run.specs.ScriptState.{ScriptState}
use Rattle.shacl_run.specs.Run.{Output, first_text}
use Rattle.shacl_run.specs.Status.{status_number}

-- the output is the report of a state, behind what is noticed, and says by its status whether the graph
-- conforms
pub record IsReportAlone (format : Format) (notices : ℕ) (s : ScriptState) (output : Output) : Type 0 where
  pub text : output.text ≡ first_text format notices s
  pub conforms : (status_number output.status ≡ 0) ↔ (report s.plan s.graph ≡ [])
  pub violates : (status_number output.status ≡ 1) ↔ (report s.plan s.graph ≢ [])
