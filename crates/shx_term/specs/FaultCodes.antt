-- The codes of faults, their names, and which faults stand at a byte: one table.
use Rattle.std.specs.Prelude.{ℕ, ◌==◌, Bool, true, false, List, [], ◌∷◌, codes, if◌then◌else◌}
use Rattle.shx_term.specs.declared.fault_codes.FaultCode.{FaultCode as Row}
use Rattle.shx_term.specs.declared.fault_codes.TheConstants.{NOT_UTF8, SYNTAX, UNKNOWN_PREFIX, BAD_IRI}
use Rattle.shx_term.specs.declared.fault_codes.TheConstants.{FLOAT_LITERAL, WIDE_VALUE, TOO_DEEP}
use Rattle.shx_term.specs.declared.fault_codes.TheConstants.{TEXT_TRIPLES, TEXT_TERMS, TEXT_TOO_LONG}
use Rattle.shx_term.specs.declared.fault_codes.TheConstants.{BAD_LIST, TOO_MANY_VALUES, WRONG_KIND}
use Rattle.shx_term.specs.declared.fault_codes.TheConstants.{NOT_ON_NODE_SHAPE, BAD_PATH}
use Rattle.shx_term.specs.declared.fault_codes.TheConstants.{NOT_A_PROPERTY_SHAPE, NOT_A_NODE_SHAPE}
use Rattle.shx_term.specs.declared.fault_codes.TheConstants.{BAD_FLAGS, TOO_MANY_SHAPES, PATH_TOO_DEEP}
use Rattle.shx_term.specs.declared.fault_codes.TheConstants.{RECURSIVE, BAD_PATTERN, PATTERN_REFUSED}
use Rattle.shx_term.specs.declared.fault_codes.TheConstants.{REFERENCES_TOO_DEEP, GRAPH_TRIPLES}
use Rattle.shx_term.specs.declared.fault_codes.TheConstants.{GRAPH_TERMS, GROUP_OPEN, NO_GROUP}
use Rattle.shx_term.specs.declared.fault_codes.TheConstants.{GROUP_TOO_LONG, NO_PAIR, NOTHING_TO_UNDO}
use Rattle.shx_term.specs.declared.fault_codes.TheConstants.{NOTHING_TO_REDO, LINE_TOO_LONG, LINE_NOT_UTF8}
use Rattle.shx_term.specs.declared.fault_codes.TheConstants.{LINE_SYNTAX, LINE_PREFIX, LINE_IRI, LINE_FLOAT}
use Rattle.shx_term.specs.declared.fault_codes.TheConstants.{LINE_WIDE, UNKNOWN_BLANK, SCRIPT_TOO_LONG}

pub record FaultCode : Type 0 where
  pub code : ℕ
  pub name : List ℕ
  -- whether the fault stands at a byte, of the text or of the line
  pub place : Bool

abbrev placed : ℕ → List ℕ → FaultCode
placed code name = record { code = code; name = name; place = true }

abbrev plain : ℕ → List ℕ → FaultCode
plain code name = record { code = code; name = name; place = false }

unfoldable pub fault_codes : List FaultCode
fault_codes =
    placed NOT_UTF8 (codes "NotUtf8")
    ∷ placed SYNTAX (codes "Syntax")
    ∷ placed UNKNOWN_PREFIX (codes "UnknownPrefix")
    ∷ placed BAD_IRI (codes "BadIri")
    ∷ placed FLOAT_LITERAL (codes "FloatLiteral")
    ∷ placed WIDE_VALUE (codes "WideValue")
    ∷ placed TOO_DEEP (codes "TooDeep")
    ∷ placed TEXT_TRIPLES (codes "TooManyTriples")
    ∷ placed TEXT_TERMS (codes "TooManyTerms")
    ∷ plain TEXT_TOO_LONG (codes "TextTooLong")
    ∷ plain BAD_LIST (codes "BadList")
    ∷ plain TOO_MANY_VALUES (codes "TooManyValues")
    ∷ plain WRONG_KIND (codes "WrongKind")
    ∷ plain NOT_ON_NODE_SHAPE (codes "NotOnNodeShape")
    ∷ plain BAD_PATH (codes "BadPath")
    ∷ plain NOT_A_PROPERTY_SHAPE (codes "NotAPropertyShape")
    ∷ plain NOT_A_NODE_SHAPE (codes "NotANodeShape")
    ∷ plain BAD_FLAGS (codes "BadFlags")
    ∷ plain TOO_MANY_SHAPES (codes "TooManyShapes")
    ∷ plain PATH_TOO_DEEP (codes "PathTooDeep")
    ∷ plain RECURSIVE (codes "Recursive")
    ∷ plain BAD_PATTERN (codes "BadPattern")
    ∷ plain PATTERN_REFUSED (codes "PatternRefused")
    ∷ plain REFERENCES_TOO_DEEP (codes "ReferencesTooDeep")
    ∷ plain GRAPH_TRIPLES (codes "TooManyTriples")
    ∷ plain GRAPH_TERMS (codes "TooManyTerms")
    ∷ plain GROUP_OPEN (codes "GroupOpen")
    ∷ plain NO_GROUP (codes "NoGroup")
    ∷ plain GROUP_TOO_LONG (codes "GroupTooLong")
    ∷ plain NO_PAIR (codes "NoPair")
    ∷ plain NOTHING_TO_UNDO (codes "NothingToUndo")
    ∷ plain NOTHING_TO_REDO (codes "NothingToRedo")
    ∷ plain LINE_TOO_LONG (codes "LineTooLong")
    ∷ plain LINE_NOT_UTF8 (codes "LineNotUtf8")
    ∷ plain LINE_SYNTAX (codes "LineSyntax")
    ∷ placed LINE_PREFIX (codes "UnknownPrefix")
    ∷ placed LINE_IRI (codes "BadIri")
    ∷ placed LINE_FLOAT (codes "FloatLiteral")
    ∷ placed LINE_WIDE (codes "WideValue")
    ∷ placed UNKNOWN_BLANK (codes "UnknownBlank")
    ∷ plain SCRIPT_TOO_LONG (codes "ScriptTooLong")
    ∷ []

-- the first row of a code; what is in no row has no name, and no place
abbrev pub row_among : List FaultCode → ℕ → FaultCode
row_among [] code = plain code []
row_among (row ∷ rows) code = if row.code == code then row else row_among rows code

abbrev pub code_name : ℕ → List ℕ
code_name code = (row_among fault_codes code).name

abbrev pub has_place : ℕ → Bool
has_place code = (row_among fault_codes code).place

-- what a row of the table in code says
abbrev pub told_row : Row → FaultCode
told_row row = record { code = row.code; name = row.name.now; place = row.has_place }
