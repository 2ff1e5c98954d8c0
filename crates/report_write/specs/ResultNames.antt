-- The names of components and of severities.
use Rattle.std.specs.Prelude.{ℕ, ◌==◌, nat_eq, List, [], ◌∷◌, Option, Some, None, if◌then◌else◌, codes}
use Rattle.std.specs.Cmp.Lexicographic.{pointwise}
use Rattle.shx_term.specs.declared.term.Term.{Term}
use Rattle.shx_term.specs.declared.term.Term.TheVariants.{Iri, Blank, Lit}
use Rattle.shx_term.specs.Spelling.{spelling_of}
use Rattle.comp_core.specs.declared.kinds.TheConstants.{CLASS, DATATYPE, NODE_KIND, MIN_COUNT, MAX_COUNT}
use Rattle.comp_core.specs.declared.kinds.TheConstants.{MIN_EXCLUSIVE, MIN_INCLUSIVE, MAX_EXCLUSIVE}
use Rattle.comp_core.specs.declared.kinds.TheConstants.{MAX_INCLUSIVE, MIN_LENGTH, MAX_LENGTH, PATTERN}
use Rattle.comp_core.specs.declared.kinds.TheConstants.{LANGUAGE_IN, UNIQUE_LANG, EQUALS, DISJOINT}
use Rattle.comp_core.specs.declared.kinds.TheConstants.{LESS_THAN, LESS_THAN_OR_EQUALS, NOT, AND, OR, XONE}
use Rattle.comp_core.specs.declared.kinds.TheConstants.{NODE, PROPERTY, QUALIFIED_MIN_COUNT}
use Rattle.comp_core.specs.declared.kinds.TheConstants.{QUALIFIED_MAX_COUNT, CLOSED, HAS_VALUE, IN}

-- ---- components (SHACL, section 4)

pub record Named : Type 0 where
  pub kind : ℕ
  pub name : List ℕ

abbrev named : ℕ → List ℕ → Named
named kind name = record { kind = kind; name = name }

abbrev pub component_names : List Named
component_names =
    named CLASS (codes "Class")
    ∷ named DATATYPE (codes "Datatype")
    ∷ named NODE_KIND (codes "NodeKind")
    ∷ named MIN_COUNT (codes "MinCount")
    ∷ named MAX_COUNT (codes "MaxCount")
    ∷ named MIN_EXCLUSIVE (codes "MinExclusive")
    ∷ named MIN_INCLUSIVE (codes "MinInclusive")
    ∷ named MAX_EXCLUSIVE (codes "MaxExclusive")
    ∷ named MAX_INCLUSIVE (codes "MaxInclusive")
    ∷ named MIN_LENGTH (codes "MinLength")
    ∷ named MAX_LENGTH (codes "MaxLength")
    ∷ named PATTERN (codes "Pattern")
    ∷ named LANGUAGE_IN (codes "LanguageIn")
    ∷ named UNIQUE_LANG (codes "UniqueLang")
    ∷ named EQUALS (codes "Equals")
    ∷ named DISJOINT (codes "Disjoint")
    ∷ named LESS_THAN (codes "LessThan")
    ∷ named LESS_THAN_OR_EQUALS (codes "LessThanOrEquals")
    ∷ named NOT (codes "Not")
    ∷ named AND (codes "And")
    ∷ named OR (codes "Or")
    ∷ named XONE (codes "Xone")
    ∷ named NODE (codes "Node")
    ∷ named PROPERTY (codes "Property")
    ∷ named QUALIFIED_MIN_COUNT (codes "QualifiedMinCount")
    ∷ named QUALIFIED_MAX_COUNT (codes "QualifiedMaxCount")
    ∷ named CLOSED (codes "Closed")
    ∷ named HAS_VALUE (codes "HasValue")
    ∷ named IN (codes "In")
    ∷ []

abbrev pub name_among : List Named → ℕ → List ℕ
name_among [] kind = []
name_among (row ∷ rows) kind = if kind == row.kind then row.name else name_among rows kind

-- the name of a component, and nothing where the number is that of none
abbrev pub component_name : ℕ → List ℕ
component_name kind = name_among component_names kind

-- ---- severities (SHACL, section 2.1.4)

abbrev pub word_of_iri : List ℕ → Option (List ℕ)
word_of_iri iri =
    if pointwise nat_eq iri (codes "http://www.w3.org/ns/shacl#Violation") then Some (codes "Violation")
    else (if pointwise nat_eq iri (codes "http://www.w3.org/ns/shacl#Warning") then Some (codes "Warning")
    else (if pointwise nat_eq iri (codes "http://www.w3.org/ns/shacl#Info") then Some (codes "Info")
    else None))

-- the word of one of the three severities of SHACL
abbrev pub severity_word : Term → Option (List ℕ)
severity_word (Iri iri) = word_of_iri iri
severity_word (Blank blank) = None
severity_word (Lit literal) = None

abbrev pub word_or_spelling : Option (List ℕ) → Term → List ℕ
word_or_spelling (Some word) term = word
word_or_spelling None term = spelling_of term

-- a severity in a line, and nothing where its number has no term
abbrev pub severity_text : Option Term → List ℕ
severity_text None = []
severity_text (Some term) = word_or_spelling (severity_word term) term
