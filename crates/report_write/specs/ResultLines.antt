-- A result as lines: what was found, the messages of its source shape, and then what it rests on.
use Rattle.std.specs.Prelude.{ℕ, List, ◌++◌, codes, flat_map, slice_get}
use Rattle.std.specs.Option.{unwrap_or}
use Rattle.shx_term.specs.declared.term.Term.{Term}
use Rattle.comp_core.specs.declared.detail.DetailRow.{DetailRow}
use Rattle.comp_core.specs.declared.row.ResultRow.{ResultRow}
use Rattle.comp_core.specs.Rows.{detail_of}
use Rattle.shape_eval.specs.declared.shape.PlanShape.{PlanShape}
use Rattle.text_output.specs.TermTexts.{number_text, optional_text}
use Rattle.text_output.specs.declared.format.Format.TheVariants.{Lines}
use Rattle.report_write.specs.ResultNames.{component_name, severity_text}
use Rattle.report_write.specs.ResultPaths.{result_path_text}
use Rattle.report_write.specs.SourceShapes.{of_shape}

-- behind a word, where a result comes from: its component, its severity, its source shape and its focus node
abbrev pub source_text : List ℕ → List Term → DetailRow → PlanShape → List ℕ
source_text word terms row shape =
    word ++ codes " " ++ component_name row.kind
    ++ codes " " ++ severity_text (slice_get terms shape.severity)
    ++ codes " " ++ number_text terms shape.node ++ codes " " ++ number_text terms row.focus

-- then its path and its value, each `-` where there is none
abbrev pub finding_line : List ℕ → List Term → DetailRow → PlanShape → List ℕ
finding_line word terms row shape =
    source_text word terms row shape
    ++ codes " " ++ unwrap_or (result_path_text Lines terms row.predicate shape.path) (codes "-")
    ++ codes " " ++ optional_text terms row.value ++ codes "\n"

abbrev pub message_text : List Term → ℕ → List ℕ
message_text terms message = codes "message " ++ number_text terms message ++ codes "\n"

-- a detail, by its own source shape
abbrev pub detail_line : List Term → List PlanShape → DetailRow → List ℕ
detail_line terms shapes row = of_shape (finding_line (codes "detail") terms row) (slice_get shapes row.shape)

abbrev pub lines_text : List Term → List PlanShape → ResultRow → PlanShape → List ℕ
lines_text terms shapes row shape =
    finding_line (codes "result") terms (detail_of row) shape
    ++ flat_map (message_text terms) shape.messages.items
    ++ flat_map (detail_line terms shapes) row.details
