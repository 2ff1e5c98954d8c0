-- Plans that mean the same: of each graph they write the same report, with the same counts.
use Rattle.std.specs.Prelude.{◌≡◌, ℕ, List, length}
use Rattle.std.specs.Set.{distinct_count}
use Rattle.shx_term.specs.declared.limits.Limits.{Limits}
use Rattle.shx_term.specs.declared.term.Term.{Term}
use Rattle.graph_view.specs.Graph.{Graph}
use Rattle.comp_core.specs.Pairs.{same_pair}
use Rattle.shape_decl.specs.Declarations.{Declaration}
use Rattle.shape_eval.specs.Nested.{nested_pairs}
use Rattle.shape_eval.specs.Plan.{Planned}
use Rattle.shape_eval.specs.Report.{pairs, report}
use Rattle.shape_compile.specs.Answers.{IsPlanOf}
use Rattle.text_output.specs.declared.format.Format.{Format}
use Rattle.report_write.specs.ReportTexts.{report_text}

-- the report of a graph, as it is written
abbrev pub written : Format → Planned → Graph → List ℕ
written format plan g = report_text format g.terms plan.shapes (report plan g)

-- how many results the report has, and at how many pairs
abbrev pub result_count : Planned → Graph → ℕ
result_count plan g = length (report plan g)

abbrev pub pair_count : Planned → Graph → ℕ
pair_count plan g = length (pairs plan g)

-- two plans come to the same on a graph; so many pairs are nested in theirs, each counted once
pub record WritesTheSame (p q : Planned) (g : Graph) : Type 0 where
  pub text : (format : Format) → written format p g ≡ written format q g
  pub results : result_count p g ≡ result_count q g
  pub pairs : pair_count p g ≡ pair_count q g
  pub nested : distinct_count same_pair (nested_pairs p g) ≡ distinct_count same_pair (nested_pairs q g)

-- plans of the same declarations come to the same on every graph, whatever numbers they give the shapes
abbrev pub PlansWriteTheSame : Type 0
PlansWriteTheSame =
    (limits : Limits) (terms : List Term) (ds : List Declaration) (p q : Planned)
    → IsPlanOf limits terms ds p → IsPlanOf limits terms ds q → (g : Graph) → WritesTheSame p q g
