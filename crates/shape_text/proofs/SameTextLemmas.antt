-- Results are written the same by two plans that have the same shapes: the text of a result tells a shape by
-- its node, its path, its severity and its messages, and never by its number.
use Rattle.std.specs.Prelude.{◌≡◌, ℕ, List, [], ◌∷◌, ◌++◌, Option, Some, None, codes, flat_map, map}
use Rattle.std.specs.Prelude.{slice_get}
use Rattle.std.specs.Option.{option_map, unwrap_or}
use Rattle.std.proofs.Common.{refl, sym, ap, ap₂, ◌∙◌}
use Rattle.std.proofs.lemmas.List.{length-map}
use Rattle.shx_term.specs.declared.term.Term.{Term}
use Rattle.comp_core.specs.declared.detail.DetailRow.{DetailRow}
use Rattle.comp_core.specs.declared.row.ResultRow.{ResultRow}
use Rattle.comp_core.specs.Rows.{detail_of}
use Rattle.shape_eval.specs.declared.shape.PlanShape.{PlanShape}
use Rattle.shape_eval.specs.Plan.{nodes_of}
use Rattle.plan_swap.specs.Alike.{IsSameShape}
use Rattle.plan_swap.specs.Renumbered.{detail_renumbered, new_number, row_renumbered, rows_renumbered}
use Rattle.text_output.specs.TermTexts.{number_text, optional_text}
use Rattle.text_output.specs.declared.format.Format.{Format}
use Rattle.text_output.specs.declared.format.Format.TheVariants.{Lines, Turtle}
use Rattle.report_write.specs.PathTexts.{path_text}
use Rattle.report_write.specs.ReportTexts.{head_text, report_text, result_text, row_text, tail_text}
use Rattle.report_write.specs.ResultBlocks.{block_text, detail_text, finding_text, found_text, in_detail}
use Rattle.report_write.specs.ResultBlocks.{in_result, nested_text, optional_property, origin_text}
use Rattle.report_write.specs.ResultBlocks.{component_text, property_text}
use Rattle.report_write.specs.ResultLines.{detail_line, finding_line, lines_text, message_text}
use Rattle.report_write.specs.ResultNames.{component_name, severity_text}
use Rattle.report_write.specs.ResultPaths.{result_path_text}
use Rattle.report_write.specs.SourceShapes.{of_shape}
use Rattle.shape_text.proofs.SamePlaceLemmas.{AreSame, back_is_there, same_at}
use Rattle.shape_text.proofs.SameShapeLemmas.{HaveSameShapes}

-- parts that are written the same, of members to which the way there and back leads
parts_written : {A X : Type 0} (one other : A → List X) (there back : A → A)
    → ((a : A) → a ≡ back (there a) → one a ≡ other (there a)) → (xs : List A)
    → xs ≡ map back (map there xs) → flat_map one xs ≡ flat_map other (map there xs)
parts_written one other there back each [] returns = refl
parts_written one other there back each (x ∷ xs) returns =
    let first : x ≡ back (there x) = cc in
    let rest : xs ≡ map back (map there xs) = cc in
    ap₂ ◌++◌ (each x first) (parts_written one other there back each xs rest)

-- ---- what is told of a shape

module _ (old new : List ℕ) (before after : PlanShape) (same : IsSameShape old new before after)
    (terms : List Term) where
  path_same : (format : Format) (predicate : Option ℕ)
      → result_path_text format terms predicate before.path
      ≡ result_path_text format terms predicate after.path
  path_same format None = ap (option_map (path_text format terms)) same.path
  path_same format (Some predicate) = refl

  -- in a line
  line_same : (word : List ℕ) (row : DetailRow)
      → finding_line word terms row before ≡ finding_line word terms row after
  line_same word row = λ i.
      (word ++ codes " " ++ component_name row.kind
      ++ codes " " ++ severity_text (slice_get terms (same.severity i))
      ++ codes " " ++ number_text terms (same.node i) ++ codes " " ++ number_text terms row.focus)
      ++ codes " " ++ unwrap_or (path_same Lines row.predicate i) (codes "-")
      ++ codes " " ++ optional_text terms row.value ++ codes "\n"

  -- in Turtle
  found_same : (front : List ℕ) (row : DetailRow)
      → found_text front terms row before ≡ found_text front terms row after
  found_same front row = λ i.
      property_text front (codes "focusNode") (number_text terms row.focus)
      ++ optional_property front (codes "resultPath") (path_same Turtle row.predicate i)
      ++ optional_property front (codes "value") (option_map (number_text terms) row.value)

  origin_same : (front messages : List ℕ) (kind : ℕ)
      → origin_text front terms messages kind before ≡ origin_text front terms messages kind after
  origin_same front messages kind = λ i.
      property_text front (codes "sourceShape") (number_text terms (same.node i))
      ++ property_text front (codes "sourceConstraintComponent") (component_text kind)
      ++ flat_map (λ id. property_text front (codes "resultMessage") (number_text terms id)) messages
      ++ property_text front (codes "resultSeverity") (number_text terms (same.severity i))

  finding_same : (front messages : List ℕ) (row : DetailRow)
      → finding_text front terms messages row before ≡ finding_text front terms messages row after
  finding_same front messages row =
      ap₂ ◌++◌ (found_same front row) (origin_same front messages row.kind)

  nested_same : (row : DetailRow) → nested_text terms row before ≡ nested_text terms row after
  nested_same row = λ i.
      codes " ;\n    sh:detail [\n      a sh:ValidationResult" ++ finding_same in_detail [] row i
      ++ codes "\n    ]"

-- ---- results under new numbers

module _ (old new : List PlanShape) (same : HaveSameShapes old new) (terms : List Term) where
  abbrev onward : ℕ → ℕ
  onward = new_number old new

  abbrev back : ℕ → ℕ
  back = new_number new old

  -- what is written of a shape, found by its number there and here
  written_same : (one other : PlanShape → List ℕ)
      → ((before after : PlanShape) → IsSameShape (nodes_of old) (nodes_of new) before after
      → one before ≡ other after)
      → (i : ℕ) → i ≡ back (onward i)
      → of_shape one (slice_get old i) ≡ of_shape other (slice_get new (onward i))
  written_same one other each i returns =
      by (slice_get old i) (slice_get new (onward i)) (same_at old new same i (onward i)
      (back_is_there old new same i returns))
    where
      by : (o u : Option PlanShape) → AreSame old new o u → of_shape one o ≡ of_shape other u
      by None None shapes = refl
      by None (Some after) shapes = absurd shapes
      by (Some before) None shapes = absurd shapes
      by (Some before) (Some after) shapes = each before after shapes.shape

  detail_line_same : (row : DetailRow) → row ≡ detail_renumbered back (detail_renumbered onward row)
      → detail_line terms old row ≡ detail_line terms new (detail_renumbered onward row)
  detail_line_same row returns =
      written_same (finding_line (codes "detail") terms row)
      (finding_line (codes "detail") terms (detail_renumbered onward row))
      (λ before after shapes.
      line_same (nodes_of old) (nodes_of new) before after shapes terms (codes "detail") row)
      row.shape (ap (λ (r : DetailRow). r.shape) returns)

  detail_text_same : (row : DetailRow) → row ≡ detail_renumbered back (detail_renumbered onward row)
      → detail_text terms old row ≡ detail_text terms new (detail_renumbered onward row)
  detail_text_same row returns =
      written_same (nested_text terms row) (nested_text terms (detail_renumbered onward row))
      (λ before after shapes. nested_same (nodes_of old) (nodes_of new) before after shapes terms row)
      row.shape (ap (λ (r : DetailRow). r.shape) returns)

  module _ (row : ResultRow) (returns : row ≡ row_renumbered back (row_renumbered onward row))
      (before after : PlanShape) (shapes : IsSameShape (nodes_of old) (nodes_of new) before after) where
    details : row.details ≡ map (detail_renumbered back) (map (detail_renumbered onward) row.details)
    details = ap (λ (r : ResultRow). r.details) returns

    lines_same : lines_text terms old row before ≡ lines_text terms new (row_renumbered onward row) after
    lines_same =
        let body = parts_written (detail_line terms old) (detail_line terms new) (detail_renumbered onward)
        (detail_renumbered back) detail_line_same row.details details in
        let line = line_same (nodes_of old) (nodes_of new) before after shapes terms (codes "result")
        (detail_of row) in
        λ i. line i ++ flat_map (message_text terms) (shapes.messages i) ++ body i

    block_same : block_text terms old row before ≡ block_text terms new (row_renumbered onward row) after
    block_same =
        let body = parts_written (detail_text terms old) (detail_text terms new) (detail_renumbered onward)
        (detail_renumbered back) detail_text_same row.details details in
        let first = ap (λ messages. finding_text in_result terms messages (detail_of row) before)
        shapes.messages
        ∙ finding_same (nodes_of old) (nodes_of new) before after shapes terms in_result
        after.messages.items (detail_of row) in
        λ i.
        codes " ;\n  sh:result [\n    a sh:ValidationResult" ++ first i ++ body i ++ codes "\n  ]"

    result_same : (format : Format) → result_text format terms old row before
        ≡ result_text format terms new (row_renumbered onward row) after
    result_same Lines = lines_same
    result_same Turtle = block_same

  row_same : (format : Format) (row : ResultRow) → row ≡ row_renumbered back (row_renumbered onward row)
      → row_text format terms old row ≡ row_text format terms new (row_renumbered onward row)
  row_same format row returns =
      written_same (result_text format terms old row)
      (result_text format terms new (row_renumbered onward row))
      (λ before after shapes. result_same row returns before after shapes format) row.shape
      (ap (λ (r : ResultRow). r.shape) returns)

  -- results that are the other plan's under new numbers, and the other way round, are written the same
  pub report_same : (format : Format) (rows others : List ResultRow) → others ≡ rows_renumbered onward rows
      → rows ≡ rows_renumbered back others
      → report_text format terms old rows ≡ report_text format terms new others
  report_same format rows others there here =
      let body = parts_written (row_text format terms old) (row_text format terms new) (row_renumbered onward)
      (row_renumbered back) (row_same format) rows (here ∙ ap (rows_renumbered back) there) in
      ap₂ (λ count text. head_text format count ++ text ++ tail_text format)
      (sym (length-map rows (row_renumbered onward))) body
      ∙ ap (report_text format terms new) (sym there)
