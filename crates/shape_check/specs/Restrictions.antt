-- What is asked of the values of a predicate (SHACL, sections 2 to 4): one table.
use Rattle.std.specs.Prelude.{ℕ, ◌==◌, Bool, true, false, List, [], ◌∷◌, if◌then◌else◌}
use Rattle.std.specs.List.{list_any}
use Rattle.shx_term.specs.declared.vocabulary.TheConstants.{SH_PATH, SH_TARGET_NODE, SH_TARGET_CLASS}
use Rattle.shx_term.specs.declared.vocabulary.TheConstants.{SH_TARGET_SUBJECTS_OF, SH_TARGET_OBJECTS_OF}
use Rattle.shx_term.specs.declared.vocabulary.TheConstants.{SH_SEVERITY, SH_MESSAGE, SH_DEACTIVATED}
use Rattle.shx_term.specs.declared.vocabulary.TheConstants.{SH_CLASS, SH_DATATYPE, SH_NODE_KIND}
use Rattle.shx_term.specs.declared.vocabulary.TheConstants.{SH_MIN_COUNT, SH_MAX_COUNT, SH_MIN_EXCLUSIVE}
use Rattle.shx_term.specs.declared.vocabulary.TheConstants.{SH_MIN_INCLUSIVE, SH_MAX_EXCLUSIVE}
use Rattle.shx_term.specs.declared.vocabulary.TheConstants.{SH_MAX_INCLUSIVE, SH_MIN_LENGTH, SH_MAX_LENGTH}
use Rattle.shx_term.specs.declared.vocabulary.TheConstants.{SH_PATTERN, SH_FLAGS, SH_LANGUAGE_IN}
use Rattle.shx_term.specs.declared.vocabulary.TheConstants.{SH_UNIQUE_LANG, SH_EQUALS, SH_DISJOINT}
use Rattle.shx_term.specs.declared.vocabulary.TheConstants.{SH_LESS_THAN, SH_LESS_THAN_OR_EQUALS, SH_NOT}
use Rattle.shx_term.specs.declared.vocabulary.TheConstants.{SH_AND, SH_OR, SH_XONE, SH_NODE, SH_PROPERTY}
use Rattle.shx_term.specs.declared.vocabulary.TheConstants.{SH_QUALIFIED_VALUE_SHAPE}
use Rattle.shx_term.specs.declared.vocabulary.TheConstants.{SH_QUALIFIED_MIN_COUNT, SH_QUALIFIED_MAX_COUNT}
use Rattle.shx_term.specs.declared.vocabulary.TheConstants.{SH_QUALIFIED_VALUE_SHAPES_DISJOINT, SH_CLOSED}
use Rattle.shx_term.specs.declared.vocabulary.TheConstants.{SH_IGNORED_PROPERTIES, SH_IN}
use Rattle.shape_check.specs.declared.kind.Expected.{Expected}
use Rattle.shape_check.specs.declared.kind.Expected.TheVariants.{Each, Lists}
use Rattle.shape_check.specs.declared.kind.ValueKind.TheVariants as kind

pub record Restriction : Type 0 where
  pub predicates : List ℕ
  -- of which kind each value is, or that each is a list, and of which kind its members are
  pub expected : Expected
  -- whether there may be one value only
  pub one : Bool

abbrev pub one : List ℕ → Expected → Restriction
one predicates expected = record { predicates = predicates; expected = expected; one = true }

abbrev pub many : List ℕ → Expected → Restriction
many predicates expected = record { predicates = predicates; expected = expected; one = false }

unfoldable pub restrictions : List Restriction
restrictions =
    one (SH_PATH ∷ []) (Each kind.Anything)
    ∷ many (SH_TARGET_NODE ∷ []) (Each kind.IriOrLiteral)
    ∷ many (SH_TARGET_CLASS ∷ SH_TARGET_SUBJECTS_OF ∷ SH_TARGET_OBJECTS_OF ∷ SH_CLASS ∷ SH_EQUALS
    ∷ SH_DISJOINT ∷ SH_LESS_THAN ∷ SH_LESS_THAN_OR_EQUALS ∷ []) (Each kind.Iri)
    ∷ one (SH_SEVERITY ∷ SH_DATATYPE ∷ []) (Each kind.Iri)
    ∷ many (SH_MESSAGE ∷ []) (Each kind.Message)
    ∷ one (SH_DEACTIVATED ∷ SH_UNIQUE_LANG ∷ SH_QUALIFIED_VALUE_SHAPES_DISJOINT ∷ SH_CLOSED ∷ [])
    (Each kind.Boolean)
    ∷ one (SH_NODE_KIND ∷ []) (Each kind.NodeKind)
    ∷ one (SH_MIN_COUNT ∷ SH_MAX_COUNT ∷ SH_MIN_LENGTH ∷ SH_MAX_LENGTH ∷ SH_QUALIFIED_MIN_COUNT
    ∷ SH_QUALIFIED_MAX_COUNT ∷ []) (Each kind.Integer)
    ∷ one (SH_MIN_EXCLUSIVE ∷ SH_MIN_INCLUSIVE ∷ SH_MAX_EXCLUSIVE ∷ SH_MAX_INCLUSIVE ∷ [])
    (Each kind.Literal)
    ∷ one (SH_PATTERN ∷ SH_FLAGS ∷ []) (Each kind.String)
    ∷ one (SH_LANGUAGE_IN ∷ []) (Lists kind.String)
    ∷ one (SH_IGNORED_PROPERTIES ∷ []) (Lists kind.Iri)
    ∷ one (SH_IN ∷ []) (Lists kind.Anything)
    ∷ many (SH_AND ∷ SH_OR ∷ SH_XONE ∷ []) (Lists kind.IriOrBlank)
    ∷ many (SH_NOT ∷ SH_NODE ∷ SH_PROPERTY ∷ []) (Each kind.IriOrBlank)
    ∷ one (SH_QUALIFIED_VALUE_SHAPE ∷ []) (Each kind.IriOrBlank)
    ∷ []

-- whether a number is among these
abbrev pub is_one_of : List ℕ → ℕ → Bool
is_one_of numbers n = list_any (λ number. number == n) numbers

-- what is in no row is free
abbrev pub restriction_among : List Restriction → ℕ → Restriction
restriction_among [] p = many [] (Each kind.Anything)
restriction_among (row ∷ rows) p = if is_one_of row.predicates p then row else restriction_among rows p

abbrev pub restriction_of : ℕ → Restriction
restriction_of p = restriction_among restrictions p

-- what only a property shape may have (SHACL, sections 4.2, 4.4, 4.5 and 4.7)
abbrev pub property_parameters : List ℕ
property_parameters =
    SH_MIN_COUNT ∷ SH_MAX_COUNT ∷ SH_UNIQUE_LANG ∷ SH_LESS_THAN ∷ SH_LESS_THAN_OR_EQUALS
    ∷ SH_QUALIFIED_VALUE_SHAPE ∷ []
