-- The text of a report (SHACL, section 3.6): what opens it, by the number of its results; each result; and
-- what closes it.
use Rattle.std.specs.Prelude.{ℕ, ◌==◌, List, [], ◌++◌, if◌then◌else◌, codes, decimal}
use Rattle.std.specs.Prelude.{flat_map, length, slice_get}
use Rattle.shx_term.specs.declared.term.Term.{Term}
use Rattle.comp_core.specs.declared.row.ResultRow.{ResultRow}
use Rattle.shape_eval.specs.declared.shape.PlanShape.{PlanShape}
use Rattle.text_output.specs.declared.format.Format.{Format}
use Rattle.text_output.specs.declared.format.Format.TheVariants.{Lines, Turtle}
use Rattle.report_write.specs.ResultBlocks.{block_text}
use Rattle.report_write.specs.ResultLines.{lines_text}
use Rattle.report_write.specs.SourceShapes.{of_shape}

-- a report conforms where it has no results
abbrev pub head_text : Format → ℕ → List ℕ
head_text Lines count =
    if count == 0 then codes "report conforms=true results=0\n"
    else codes "report conforms=false results=" ++ decimal count ++ codes "\n"
head_text Turtle count =
    codes "@prefix sh: <http://www.w3.org/ns/shacl#> .\n[] a sh:ValidationReport ;\n  sh:conforms "
    ++ (if count == 0 then codes "true" else codes "false")

abbrev pub result_text : Format → List Term → List PlanShape → ResultRow → PlanShape → List ℕ
result_text Lines terms shapes row shape = lines_text terms shapes row shape
result_text Turtle terms shapes row shape = block_text terms shapes row shape

-- a result, by its source shape
abbrev pub row_text : Format → List Term → List PlanShape → ResultRow → List ℕ
row_text format terms shapes row = of_shape (result_text format terms shapes row) (slice_get shapes row.shape)

abbrev pub tail_text : Format → List ℕ
tail_text Lines = []
tail_text Turtle = codes " .\n"

abbrev pub report_text : Format → List Term → List PlanShape → List ResultRow → List ℕ
report_text format terms shapes rows =
    head_text format (length rows) ++ flat_map (row_text format terms shapes) rows ++ tail_text format
