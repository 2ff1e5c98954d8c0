-- How a term is written: an IRI in angle brackets; a blank node by `_:` and a letter for its text and kind; a
-- literal in quotation marks, with quotation marks, backslashes, line feeds and carriage returns escaped and
-- all else as it is, then its tag or its datatype, which is left out where it is xsd:string.
use Rattle.std.specs.Prelude.{ℕ, Bool, ◌==◌, ◌||◌, List, [], ◌∷◌, ◌++◌, Option, Some, None, if◌then◌else◌}
use Rattle.std.specs.Prelude.{codes, decimal, flat_map, nat_eq}
use Rattle.std.specs.Cmp.Lexicographic.{pointwise}
use Rattle.shx_term.specs.declared.term.Term.{Term}
use Rattle.shx_term.specs.declared.term.Term.TheVariants.{Iri, Blank, Lit}
use Rattle.shx_term.specs.declared.term.Scope.{Scope}
use Rattle.shx_term.specs.declared.term.Scope.TheVariants.{Data, Shapes}
use Rattle.shx_term.specs.declared.term.LocalName.{LocalName}
use Rattle.shx_term.specs.declared.term.LocalName.TheVariants.{Labelled, Anonymous}
use Rattle.shx_term.specs.declared.term.Literal.{Literal}

abbrev pub xsd_string : List ℕ
xsd_string = codes "http://www.w3.org/2001/XMLSchema#string"

abbrev pub bracketed : List ℕ → List ℕ
bracketed iri = codes "<" ++ iri ++ codes ">"

-- quotation mark, backslash, line feed and carriage return
abbrev pub is_escaped : ℕ → Bool
is_escaped b = (b == 34) || ((b == 92) || ((b == 10) || (b == 13)))

-- a byte of a lexical form as it is written
abbrev pub escaped_byte : ℕ → List ℕ
escaped_byte b =
    if b == 34 then codes "\\\""
    else (if b == 92 then codes "\\\\"
    else (if b == 10 then codes "\\n"
    else (if b == 13 then codes "\\r"
    else b ∷ [])))

abbrev pub escaped : List ℕ → List ℕ
escaped bytes = flat_map escaped_byte bytes

abbrev pub blank_spelling : Scope → LocalName → List ℕ
blank_spelling Data (Labelled label) = codes "_:d-" ++ label
blank_spelling Shapes (Labelled label) = codes "_:s-" ++ label
blank_spelling Data (Anonymous number) = codes "_:a-" ++ decimal number
blank_spelling Shapes (Anonymous number) = codes "_:t-" ++ decimal number

-- what follows the lexical form
abbrev pub kind_spelling : Option (List ℕ) → List ℕ → List ℕ
kind_spelling (Some tag) datatype = codes "@" ++ tag
kind_spelling None datatype = if pointwise nat_eq datatype xsd_string then [] else codes "^^"
    ++ bracketed datatype

abbrev pub literal_spelling : Literal → List ℕ
literal_spelling literal = codes "\"" ++ escaped literal.lexical ++ codes "\""
    ++ kind_spelling literal.tag literal.datatype

abbrev pub spelling_of : Term → List ℕ
spelling_of (Iri iri) = bracketed iri
spelling_of (Blank blank) = blank_spelling blank.scope blank.name
spelling_of (Lit literal) = literal_spelling literal
