-- A result in Turtle (SHACL, section 3.6.2): a blank node that is one more result of the report.
use Rattle.std.specs.Prelude.{ℕ, List, [], ◌++◌, Option, Some, None, codes, flat_map, slice_get}
use Rattle.std.specs.Option.{option_map}
use Rattle.shx_term.specs.declared.term.Term.{Term}
use Rattle.comp_core.specs.declared.detail.DetailRow.{DetailRow}
use Rattle.comp_core.specs.declared.row.ResultRow.{ResultRow}
use Rattle.comp_core.specs.Rows.{detail_of}
use Rattle.shape_eval.specs.declared.shape.PlanShape.{PlanShape}
use Rattle.text_output.specs.TermTexts.{number_text}
use Rattle.text_output.specs.declared.format.Format.TheVariants.{Turtle}
use Rattle.report_write.specs.ResultNames.{component_name}
use Rattle.report_write.specs.ResultPaths.{result_path_text}
use Rattle.report_write.specs.SourceShapes.{of_shape}

-- what stands before the name of a property, in the namespace of SHACL: of a result, and of a detail
abbrev pub in_result : List ℕ
in_result = codes " ;\n    sh:"

abbrev pub in_detail : List ℕ
in_detail = codes " ;\n      sh:"

-- one more property
abbrev pub property_text : List ℕ → List ℕ → List ℕ → List ℕ
property_text before name value = before ++ name ++ codes " " ++ value

-- nothing where there is no value
abbrev pub optional_property : List ℕ → List ℕ → Option (List ℕ) → List ℕ
optional_property before name None = []
optional_property before name (Some value) = property_text before name value

-- the IRI of a component, in short
abbrev pub component_text : ℕ → List ℕ
component_text kind = codes "sh:" ++ component_name kind ++ codes "ConstraintComponent"

-- what was found: the focus node, the path and the value
abbrev pub found_text : List ℕ → List Term → DetailRow → PlanShape → List ℕ
found_text before terms row shape =
    property_text before (codes "focusNode") (number_text terms row.focus)
    ++ optional_property before (codes "resultPath") (result_path_text Turtle terms row.predicate shape.path)
    ++ optional_property before (codes "value") (option_map (number_text terms) row.value)

-- where it comes from: the source shape, the component, some messages and the severity
abbrev pub origin_text : List ℕ → List Term → List ℕ → ℕ → PlanShape → List ℕ
origin_text before terms messages kind shape =
    property_text before (codes "sourceShape") (number_text terms shape.node)
    ++ property_text before (codes "sourceConstraintComponent") (component_text kind)
    ++ flat_map (λ message. property_text before (codes "resultMessage") (number_text terms message)) messages
    ++ property_text before (codes "resultSeverity") (number_text terms shape.severity)

abbrev pub finding_text : List ℕ → List Term → List ℕ → DetailRow → PlanShape → List ℕ
finding_text before terms messages row shape =
    found_text before terms row shape ++ origin_text before terms messages row.kind shape

-- the blank node of a detail, which has no messages
abbrev pub nested_text : List Term → DetailRow → PlanShape → List ℕ
nested_text terms row shape =
    codes " ;\n    sh:detail [\n      a sh:ValidationResult" ++ finding_text in_detail terms [] row shape
    ++ codes "\n    ]"

-- a detail, by its own source shape
abbrev pub detail_text : List Term → List PlanShape → DetailRow → List ℕ
detail_text terms shapes row = of_shape (nested_text terms row) (slice_get shapes row.shape)

-- the blank node of a result, with the messages of its source shape and what it rests on
abbrev pub block_text : List Term → List PlanShape → ResultRow → PlanShape → List ℕ
block_text terms shapes row shape =
    codes " ;\n  sh:result [\n    a sh:ValidationResult"
    ++ finding_text in_result terms shape.messages.items (detail_of row) shape
    ++ flat_map (detail_text terms shapes) row.details ++ codes "\n  ]"
