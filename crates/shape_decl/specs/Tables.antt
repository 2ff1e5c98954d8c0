-- The predicates by which a node is a shape (SHACL, section 2), in the order of the vocabulary.
use Rattle.std.specs.Prelude.{ℕ, List, [], ◌∷◌, ◌++◌}
use Rattle.shx_term.specs.declared.vocabulary.TheConstants.{SH_TARGET_NODE, SH_TARGET_CLASS}
use Rattle.shx_term.specs.declared.vocabulary.TheConstants.{SH_TARGET_SUBJECTS_OF, SH_TARGET_OBJECTS_OF}
use Rattle.shx_term.specs.declared.vocabulary.TheConstants.{SH_CLASS, SH_DATATYPE, SH_NODE_KIND}
use Rattle.shx_term.specs.declared.vocabulary.TheConstants.{SH_MIN_COUNT, SH_MAX_COUNT, SH_MIN_EXCLUSIVE}
use Rattle.shx_term.specs.declared.vocabulary.TheConstants.{SH_MIN_INCLUSIVE, SH_MAX_EXCLUSIVE}
use Rattle.shx_term.specs.declared.vocabulary.TheConstants.{SH_MAX_INCLUSIVE, SH_MIN_LENGTH, SH_MAX_LENGTH}
use Rattle.shx_term.specs.declared.vocabulary.TheConstants.{SH_PATTERN, SH_FLAGS, SH_LANGUAGE_IN}
use Rattle.shx_term.specs.declared.vocabulary.TheConstants.{SH_UNIQUE_LANG, SH_EQUALS, SH_DISJOINT}
use Rattle.shx_term.specs.declared.vocabulary.TheConstants.{SH_LESS_THAN, SH_LESS_THAN_OR_EQUALS, SH_NOT}
use Rattle.shx_term.specs.declared.vocabulary.TheConstants.{SH_AND, SH_OR, SH_XONE, SH_NODE, SH_PROPERTY}
use Rattle.shx_term.specs.declared.vocabulary.TheConstants.{SH_QUALIFIED_VALUE_SHAPE}
use Rattle.shx_term.specs.declared.vocabulary.TheConstants.{SH_QUALIFIED_MIN_COUNT, SH_QUALIFIED_MAX_COUNT}
use Rattle.shx_term.specs.declared.vocabulary.TheConstants.{SH_QUALIFIED_VALUE_SHAPES_DISJOINT, SH_CLOSED}
use Rattle.shx_term.specs.declared.vocabulary.TheConstants.{SH_IGNORED_PROPERTIES, SH_HAS_VALUE, SH_IN}

abbrev pub target_predicates : List ℕ
target_predicates =
    SH_TARGET_NODE ∷ SH_TARGET_CLASS ∷ SH_TARGET_SUBJECTS_OF ∷ SH_TARGET_OBJECTS_OF ∷ []

-- the parameters of the constraint components
abbrev pub parameters : List ℕ
parameters =
    SH_CLASS ∷ SH_DATATYPE ∷ SH_NODE_KIND ∷ SH_MIN_COUNT ∷ SH_MAX_COUNT ∷ SH_MIN_EXCLUSIVE
    ∷ SH_MIN_INCLUSIVE ∷ SH_MAX_EXCLUSIVE ∷ SH_MAX_INCLUSIVE ∷ SH_MIN_LENGTH ∷ SH_MAX_LENGTH ∷ SH_PATTERN
    ∷ SH_FLAGS ∷ SH_LANGUAGE_IN ∷ SH_UNIQUE_LANG ∷ SH_EQUALS ∷ SH_DISJOINT ∷ SH_LESS_THAN
    ∷ SH_LESS_THAN_OR_EQUALS ∷ SH_NOT ∷ SH_AND ∷ SH_OR ∷ SH_XONE ∷ SH_NODE ∷ SH_PROPERTY
    ∷ SH_QUALIFIED_VALUE_SHAPE ∷ SH_QUALIFIED_MIN_COUNT ∷ SH_QUALIFIED_MAX_COUNT
    ∷ SH_QUALIFIED_VALUE_SHAPES_DISJOINT ∷ SH_CLOSED ∷ SH_IGNORED_PROPERTIES ∷ SH_HAS_VALUE ∷ SH_IN ∷ []

-- whose subjects are shapes
abbrev pub subject_predicates : List ℕ
subject_predicates = target_predicates ++ parameters

-- whose values are shapes
abbrev pub shape_predicates : List ℕ
shape_predicates = SH_NOT ∷ SH_NODE ∷ SH_PROPERTY ∷ SH_QUALIFIED_VALUE_SHAPE ∷ []

-- whose values are lists of shapes
abbrev pub shape_list_predicates : List ℕ
shape_list_predicates = SH_AND ∷ SH_OR ∷ SH_XONE ∷ []

-- whose values are lists
abbrev pub list_predicates : List ℕ
list_predicates = SH_LANGUAGE_IN ∷ SH_AND ∷ SH_OR ∷ SH_XONE ∷ SH_IGNORED_PROPERTIES ∷ SH_IN ∷ []
