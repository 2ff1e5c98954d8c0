-- The texts of answers. Each ends with a line feed. Terms are told by number, and written by their spelling.
use Rattle.std.specs.Prelude.{ℕ, List, [], ◌∷◌, ◌++◌, codes, decimal, flat_map, length, map}
use Rattle.shx_outside.specs.declared.role.Role.{Role}
use Rattle.shx_outside.specs.declared.role.Role.TheVariants.{Shapes, Data, Script}
use Rattle.shx_term.specs.declared.term.Term.{Term}
use Rattle.shx_term.specs.declared.triple.Triple.{Triple}
use Rattle.shx_term.specs.FaultCodes.{code_name}
use Rattle.shx_term.specs.declared.fault_codes.TheConstants.{SCRIPT_TOO_LONG, TEXT_TOO_LONG}
use Rattle.report_write.specs.declared.answer.Answer.{Answer}
use Rattle.report_write.specs.declared.answer.Answer.TheVariants.{Changed, Unchanged, RefusedLine}
use Rattle.report_write.specs.declared.answer.Answer.TheVariants.{Abandoned, Begun, GroupDropped, Queued}
use Rattle.report_write.specs.declared.answer.Answer.TheVariants.{Slice, SliceTriple, TextFault, TooLong}
use Rattle.report_write.specs.declared.answer.Answer.TheVariants.{Notice, Rule, OfShape, Count, RefusedAt}
use Rattle.report_write.specs.declared.answer.Answer.TheVariants.{ShapesTaken, Usage}
use Rattle.text_output.specs.declared.format.Format.{Format}
use Rattle.text_output.specs.declared.format.Format.TheVariants.{Lines, Turtle}
use Rattle.report_write.specs.Roles.{role_name}
use Rattle.text_output.specs.TermTexts.{number_text}

-- a code with its name
abbrev pub code_text : ℕ → List ℕ
code_text code = decimal code ++ codes " " ++ code_name code

-- the code of a text that is longer than it may be
abbrev pub code_of_length : Role → ℕ
code_of_length Shapes = TEXT_TOO_LONG
code_of_length Data = TEXT_TOO_LONG
code_of_length Script = SCRIPT_TOO_LONG

-- how the fault of a text begins
abbrev pub fault_head : Role → ℕ → List ℕ
fault_head role code = codes "fault " ++ role_name role ++ codes ": " ++ code_text code

-- how the fault of a shape begins
abbrev pub shape_fault_head : List Term → ℕ → ℕ → List ℕ
shape_fault_head terms code shape = fault_head Shapes code ++ codes " shape " ++ number_text terms shape

abbrev pub usage_text : List ℕ
usage_text = codes "usage: shacl_keep [--format lines|turtle] [--base IRI] SHAPES DATA [SCRIPT]\n"

-- how the refusal of a line begins
abbrev pub refusal_head : ℕ → ℕ → List ℕ
refusal_head line code = codes "refused line " ++ decimal line ++ codes ": " ++ code_text code

-- a triple of a slice
abbrev pub triple_text : List Term → Triple → List ℕ
triple_text terms t =
    codes "triple " ++ number_text terms t.s ++ codes " " ++ number_text terms t.p ++ codes " "
    ++ number_text terms t.o ++ codes "\n"

-- an answer as a line
abbrev pub line_text : List Term → Answer → List ℕ
line_text terms (Changed evaluated) = codes "ok changed evaluated " ++ decimal evaluated ++ codes "\n"
line_text terms Unchanged = codes "ok unchanged evaluated 0\n"
line_text terms (ShapesTaken evaluated) = codes "ok shapes evaluated " ++ decimal evaluated ++ codes "\n"
line_text terms Begun = codes "ok begun\n"
line_text terms Queued = codes "ok queued\n"
line_text terms Abandoned = codes "ok abandoned\n"
line_text terms (Count triples pairs results) =
    codes "count triples=" ++ decimal triples ++ codes " pairs=" ++ decimal pairs
    ++ codes " results=" ++ decimal results ++ codes "\n"
line_text terms (Slice triples) = codes "slice triples=" ++ decimal triples ++ codes "\n"
line_text terms (SliceTriple triple) = triple_text terms triple
line_text terms (RefusedLine line code) = refusal_head line code ++ codes "\n"
line_text terms (RefusedAt line code at) =
    refusal_head line code ++ codes " at " ++ decimal at ++ codes "\n"
line_text terms (TextFault role code at) =
    fault_head role code ++ codes " at " ++ decimal at ++ codes "\n"
line_text terms (TooLong role) = fault_head role (code_of_length role) ++ codes "\n"
line_text terms (Rule code shape predicate term) =
    shape_fault_head terms code shape ++ codes " predicate " ++ number_text terms predicate
    ++ codes " term " ++ number_text terms term ++ codes "\n"
line_text terms (OfShape code shape) = shape_fault_head terms code shape ++ codes "\n"
line_text terms (Notice count) =
    codes "notice: " ++ decimal count ++ codes " sh:sparql triples ignored\n"
line_text terms GroupDropped = codes "notice: open group dropped\n"
line_text terms Usage = usage_text

-- what stands before it: in Turtle an answer is a comment, but for the usage
abbrev pub line_start : Format → Answer → List ℕ
line_start Lines answer = []
line_start Turtle Usage = []
line_start Turtle answer = codes "# "

abbrev pub answer_text : Format → List Term → Answer → List ℕ
answer_text format terms answer = line_start format answer ++ line_text terms answer

-- a slice: how many triples it has, and these
abbrev pub slice_answers : List Triple → List Answer
slice_answers triples = Slice (length triples) ∷ map SliceTriple triples

abbrev pub slice_text : Format → List Term → List Triple → List ℕ
slice_text format terms triples = flat_map (answer_text format terms) (slice_answers triples)
