-- What a validation stores is as good as the state before the script: the same report.
use Rattle.std.specs.Prelude.{◌≡◌, ℕ, ◌+◌, List, ◌++◌}
use Rattle.std.proofs.Common.{sym, ap, ◌∙◌}
use Rattle.shx_term.specs.declared.limits.Limits.{Limits}
use Rattle.shx_term.specs.declared.term.Term.{Term}
use Rattle.graph_view.specs.Graph.{Graph}
use Rattle.graph_view.specs.ListGraph.{plain_graph}
use Rattle.comp_core.specs.declared.row.ResultRow.{ResultRow}
use Rattle.shape_eval.specs.Plan.{Planned}
use Rattle.shape_eval.specs.Planned.{plan_of}
use Rattle.shape_eval.specs.Report.{report}
use Rattle.text_output.specs.declared.format.Format.{Format}
use Rattle.report_write.specs.ReportTexts.{report_text}
use Rattle.script_run.specs.declared.validation.Validation.{Validation}
use Rattle.script_run.specs.Stored.{IsValidation}
use Rattle.shacl_run.specs.Run.{first_text, notice_text}
use Rattle.script_run.specs.Script.{said_text}
use Rattle.script_run.specs.Script.Said.{reports}
use Rattle.script_run.specs.ScriptState.{ScriptState}

module _ (limits : Limits) (format : Format) (s : ScriptState) (validation : Validation)
    (is : IsValidation limits format s validation) where
  abbrev stored : Graph
  stored = plain_graph validation.graph

  abbrev plan : Planned
  plan = plan_of validation.plan

  -- the results are those of the state
  pub rows-validation : report plan s.graph ≡ report plan stored → (rows : List ResultRow)
      → rows ≡ report plan stored → rows ≡ report s.plan s.graph
  rows-validation alike rows same =
      same ∙ sym alike ∙ ap (λ (p : Planned). report p s.graph) is.plan_is

  -- and their text is what is said of it
  text-validation : (rows : List ResultRow) → rows ≡ report s.plan s.graph
      → said_text format s reports ≡ report_text format validation.graph.pool.terms plan.shapes rows
  text-validation rows same =
      sym (λ i. report_text format (sym is.stores.terms i) (is.plan_is i).shapes (same i))

  -- behind the notice it is the first that is put
  pub first-validation : (notices : ℕ) (terms : List Term) (given rows : List ResultRow)
      → terms ≡ validation.graph.pool.terms → given ≡ rows → rows ≡ report s.plan s.graph
      → notice_text format notices ++ report_text format terms plan.shapes given
      ≡ first_text format notices s
  first-validation notices terms given rows held same found =
      (λ i. notice_text format notices ++ report_text format (held i) plan.shapes (same i))
      ∙ ap (λ text. notice_text format notices ++ text) (sym (text-validation rows found))

  -- whatever the other limits are
  pub IsValidation-within : (within : Limits) → within.triples ≡ limits.triples → within.terms ≡ limits.terms
      → IsValidation within format s validation
  IsValidation-within within triples terms = record {
    stores = is.stores;
    names_are = is.names_are;
    plan_is = is.plan_is;
    start = is.start;
    limits_are = record {
      triples = is.limits_are.triples ∙ sym triples;
      terms = is.limits_are.terms ∙ sym terms;
    };
    format_is = is.format_is;
  }
