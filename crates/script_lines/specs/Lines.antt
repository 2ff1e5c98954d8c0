-- What a line asks for, behind a data text whose base, prefixes and blank nodes are those of its terms; or
-- its fault: the line is too long, is no UTF-8, has no form, or has a term with a fault, the first in the
-- line.
use Rattle.std.specs.Prelude.{◌≡◌, ◌≢◌, ℕ, ◌<◌, ◌≤◌, ◌⊎◌, ◌==◌, List, length, codes, None, Some, Result, Ok}
use Rattle.std.specs.Prelude.{Err}
use Rattle.std.specs.Prelude.{if◌then◌else◌}
use Rattle.std.specs.Str.{IsUtf8, encode_utf8_all}
use Rattle.shx_term.specs.declared.fault_codes.TheConstants.{UNKNOWN_PREFIX, BAD_IRI, FLOAT_LITERAL}
use Rattle.shx_term.specs.declared.fault_codes.TheConstants.{WIDE_VALUE}
use Rattle.shx_term.specs.declared.fault_codes.TheConstants.{LINE_PREFIX, LINE_IRI, LINE_FLOAT, LINE_WIDE}
use Rattle.shx_term.specs.declared.fault_codes.TheConstants.{LINE_TOO_LONG, LINE_NOT_UTF8, LINE_SYNTAX}
use Rattle.shx_term.specs.declared.edit.Edit.{Edit}
use Rattle.shx_term.specs.declared.edit.Edit.TheVariants.{Insert, Remove}
use Rattle.shx_term.specs.declared.limits.Limits.{Limits}
use Rattle.shx_term.specs.declared.term.Term.{Term}
use Rattle.shx_term.specs.declared.triple.TermTriple.{TermTriple}
use Rattle.shx_term.specs.Edit.{IsValidEdit}
use Rattle.shx_term.specs.Vocabulary.{rdf}
use Rattle.ttl_tokens.specs.declared.token.Token.{Token}
use Rattle.ttl_tokens.specs.declared.token.TokenKind.TheVariants.{BlankLabel, WordA}
use Rattle.ttl_tokens.specs.Unescaped.{meaning}
use Rattle.ttl_meaning.specs.declared.document.Document.{Document}
use Rattle.ttl_meaning.specs.ShapesNodes.{MayBeOfShapes}
use Rattle.ttl_read.specs.ReadTerm.{Found, A, No, IsFound, IsOneFound}
use Rattle.script_lines.specs.declared.command.Command.{Command}
use Rattle.script_lines.specs.declared.command.Command.TheVariants.{Edit as edits, Report, Count, Begin}
use Rattle.script_lines.specs.declared.command.Command.TheVariants.{Commit, Abandon, Undo, Redo}
use Rattle.script_lines.specs.declared.command.Command.TheVariants.{Slice, Shapes, Nothing}
use Rattle.script_lines.specs.declared.fault.LineFault.{LineFault}
use Rattle.script_lines.specs.declared.fault.LineFault.TheVariants.{Line}
use Rattle.script_lines.specs.declared.line_form.LineForm.{LineForm}
use Rattle.script_lines.specs.declared.line_form.LineForm.TheVariants as form
use Rattle.script_lines.specs.declared.line_form.PairTokens.{PairTokens}
use Rattle.script_lines.specs.declared.line_form.Terms.{Terms}
use Rattle.script_lines.specs.declared.word.Word.{Word}
use Rattle.script_lines.specs.declared.word.Word.TheVariants as word
use Rattle.script_lines.specs.Forms.{HasForm}

-- ---- terms

-- the code of a term's fault, in a line
abbrev pub line_code : ℕ → ℕ
line_code code =
    if code == UNKNOWN_PREFIX then LINE_PREFIX
    else (if code == BAD_IRI then LINE_IRI
    else (if code == FLOAT_LITERAL then LINE_FLOAT
    else (if code == WIDE_VALUE then LINE_WIDE
    else code)))

-- the word `a` is rdf:type
abbrev pub IsPredicateFound : List ℕ → Token → Document → Found → Type 0
IsPredicateFound line token document answer =
    ((token.kind ≡ WordA) × (answer ≡ A (rdf (codes "type")) token.end))
    ⊎ ((token.kind ≢ WordA) × IsFound line token document answer)

-- the fault of a term, in a line
abbrev pub term_fault : ℕ → ℕ → LineFault
term_fault code at = Line (line_code code) (Some at)

-- the triple of three terms, or the first fault among them
pub data IsTripleRead (line : List ℕ) (document : Document) (terms : Terms)
    (triple : Result TermTriple LineFault) : Type 0 where
  BadSubject : (code at : ℕ) → IsFound line terms.subject document (No code at)
      → triple ≡ Err (term_fault code at) → IsTripleRead line document terms triple
  BadPredicate : (s : Term) (s_end : ℕ) → IsFound line terms.subject document (A s s_end)
      → (code at : ℕ) → IsPredicateFound line terms.predicate document (No code at)
      → triple ≡ Err (term_fault code at) → IsTripleRead line document terms triple
  BadObject : (s p : Term) (s_end p_end : ℕ) → IsFound line terms.subject document (A s s_end)
      → IsPredicateFound line terms.predicate document (A p p_end)
      → (code at : ℕ) → IsFound line terms.object document (No code at)
      → triple ≡ Err (term_fault code at) → IsTripleRead line document terms triple
  ATriple : (s p o : Term) (s_end p_end o_end : ℕ) → IsFound line terms.subject document (A s s_end)
      → IsPredicateFound line terms.predicate document (A p p_end)
      → IsFound line terms.object document (A o o_end)
      → triple ≡ Ok (record { s = s; p = p; o = o }) → IsTripleRead line document terms triple

-- ---- pairs

-- a shape is called by its IRI, or by the name of a blank node that a shapes text may have
abbrev pub IsShapeFound : List ℕ → Token → Document → Found → Type 0
IsShapeFound line token document answer =
    ((token.kind ≡ BlankLabel) × IsOneFound MayBeOfShapes line token answer)
    ⊎ ((token.kind ≢ BlankLabel) × IsFound line token document answer)

-- the pair of two terms, or the first fault among them
pub data IsPairRead (line : List ℕ) (document : Document) (pair : PairTokens)
    (command : Result Command LineFault) : Type 0 where
  BadShape : (code at : ℕ) → IsShapeFound line pair.shape document (No code at)
      → command ≡ Err (term_fault code at) → IsPairRead line document pair command
  BadNode : (shape : Term) (shape_end : ℕ) → IsShapeFound line pair.shape document (A shape shape_end)
      → (code at : ℕ) → IsFound line pair.node document (No code at)
      → command ≡ Err (term_fault code at) → IsPairRead line document pair command
  APair : (shape node : Term) (shape_end node_end : ℕ)
      → IsShapeFound line pair.shape document (A shape shape_end)
      → IsFound line pair.node document (A node node_end)
      → command ≡ Ok (Slice shape node) → IsPairRead line document pair command

-- ---- names

-- a string is the name of a text of shapes, with its escapes undone
abbrev pub name_of : List ℕ → Token → List ℕ
name_of line name = encode_utf8_all (meaning line name)

-- ---- lines

-- an edit by a triple, or the triple's fault
abbrev pub edits_by : (TermTriple → Edit) → Result TermTriple LineFault → Result Command LineFault
edits_by edit (Ok triple) = Ok (edits (edit triple))
edits_by edit (Err fault) = Err fault

-- what a word asks for that stands alone
abbrev pub asked_by : Word → Command
asked_by word.Report = Report
asked_by word.Count = Count
asked_by word.Begin = Begin
asked_by word.Commit = Commit
asked_by word.Abandon = Abandon
asked_by word.Undo = Undo
asked_by word.Redo = Redo

-- a line of this form asks for this
abbrev pub IsAsked : List ℕ → Document → LineForm → Result Command LineFault → Type 0
IsAsked line document form.Blank reading = reading ≡ Ok Nothing
IsAsked line document (form.Alone word) reading = reading ≡ Ok (asked_by word)
IsAsked line document (form.Insert terms) reading =
    (triple : Result TermTriple LineFault) × IsTripleRead line document terms triple
    × (reading ≡ edits_by Insert triple)
IsAsked line document (form.Remove terms) reading =
    (triple : Result TermTriple LineFault) × IsTripleRead line document terms triple
    × (reading ≡ edits_by Remove triple)
IsAsked line document (form.Slice pair) reading = IsPairRead line document pair reading
IsAsked line document (form.Shapes name) reading = reading ≡ Ok (Shapes (name_of line name))

-- a line is read so: the first of these that holds
pub data IsLineRead (limits : Limits) (document : Document) (line : List ℕ)
    (reading : Result Command LineFault) : Type 0 where
  TooLong : limits.line < length line → reading ≡ Err (Line LINE_TOO_LONG None)
      → IsLineRead limits document line reading
  NotUtf8 : length line ≤ limits.line → (IsUtf8 line → ⊥) → reading ≡ Err (Line LINE_NOT_UTF8 None)
      → IsLineRead limits document line reading
  NoForm : length line ≤ limits.line → IsUtf8 line → ((form : LineForm) → HasForm line form → ⊥)
      → reading ≡ Err (Line LINE_SYNTAX None) → IsLineRead limits document line reading
  AForm : length line ≤ limits.line → IsUtf8 line → (form : LineForm) → HasForm line form
      → IsAsked line document form reading → IsLineRead limits document line reading

-- what a command inserts or removes is a valid triple
abbrev pub IsValidCommand : Command → Type 0
IsValidCommand (edits edit) = IsValidEdit edit
IsValidCommand Report = Unit {0}
IsValidCommand Count = Unit {0}
IsValidCommand Begin = Unit {0}
IsValidCommand Commit = Unit {0}
IsValidCommand Abandon = Unit {0}
IsValidCommand Undo = Unit {0}
IsValidCommand Redo = Unit {0}
IsValidCommand (Slice shape node) = Unit {0}
IsValidCommand (Shapes name) = Unit {0}
IsValidCommand Nothing = Unit {0}
