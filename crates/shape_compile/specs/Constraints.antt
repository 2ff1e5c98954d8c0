-- The constraints that a shape states (SHACL, section 4), by component and then by parameter in term order.
use Rattle.std.specs.Prelude.{ℕ, List, [], ◌∷◌, ◌++◌, Option, Some, filter, flat_map, map}
use Rattle.shx_outside.specs.declared.flags.Flags.{Flags}
use Rattle.shx_term.specs.declared.term.Term.{Term}
use Rattle.shx_term.specs.declared.vocabulary.TheConstants.{SH_PROPERTY, SH_IGNORED_PROPERTIES, SH_CLASS}
use Rattle.shx_term.specs.declared.vocabulary.TheConstants.{SH_DATATYPE, SH_NODE_KIND, SH_NODE}
use Rattle.shx_term.specs.declared.vocabulary.TheConstants.{SH_MIN_COUNT, SH_MAX_COUNT, SH_MIN_EXCLUSIVE}
use Rattle.shx_term.specs.declared.vocabulary.TheConstants.{SH_MIN_INCLUSIVE, SH_MAX_EXCLUSIVE}
use Rattle.shx_term.specs.declared.vocabulary.TheConstants.{SH_MAX_INCLUSIVE, SH_MIN_LENGTH, SH_MAX_LENGTH}
use Rattle.shx_term.specs.declared.vocabulary.TheConstants.{SH_PATTERN, SH_LANGUAGE_IN, SH_UNIQUE_LANG}
use Rattle.shx_term.specs.declared.vocabulary.TheConstants.{SH_EQUALS, SH_DISJOINT, SH_LESS_THAN}
use Rattle.shx_term.specs.declared.vocabulary.TheConstants.{SH_LESS_THAN_OR_EQUALS, SH_NOT, SH_AND, SH_OR}
use Rattle.shx_term.specs.declared.vocabulary.TheConstants.{SH_XONE, SH_QUALIFIED_VALUE_SHAPE}
use Rattle.shx_term.specs.declared.vocabulary.TheConstants.{SH_QUALIFIED_MIN_COUNT, SH_QUALIFIED_MAX_COUNT}
use Rattle.shx_term.specs.declared.vocabulary.TheConstants.{SH_CLOSED, SH_HAS_VALUE, SH_IN}
use Rattle.path_eval.specs.Route.{along}
use Rattle.comp_core.specs.declared.kinds.TheConstants.{IN, PATTERN, PROPERTY, OR, CLASS, DATATYPE}
use Rattle.comp_core.specs.declared.kinds.TheConstants.{NODE_KIND, NODE, MIN_COUNT, MAX_COUNT}
use Rattle.comp_core.specs.declared.kinds.TheConstants.{MIN_EXCLUSIVE, MIN_INCLUSIVE, MAX_EXCLUSIVE}
use Rattle.comp_core.specs.declared.kinds.TheConstants.{MAX_INCLUSIVE, MIN_LENGTH, MAX_LENGTH, LANGUAGE_IN}
use Rattle.comp_core.specs.declared.kinds.TheConstants.{UNIQUE_LANG, EQUALS, DISJOINT, LESS_THAN}
use Rattle.comp_core.specs.declared.kinds.TheConstants.{LESS_THAN_OR_EQUALS, NOT, AND, XONE}
use Rattle.comp_core.specs.declared.kinds.TheConstants.{QUALIFIED_MIN_COUNT, QUALIFIED_MAX_COUNT, CLOSED}
use Rattle.comp_core.specs.declared.kinds.TheConstants.{HAS_VALUE}
use Rattle.shape_decl.specs.Declarations.{Declaration, ListReading, lists_under, values_under}
use Rattle.shape_decl.specs.PathReadings.{RouteReading, Read}
use Rattle.shape_decl.specs.Shapes.{members_or_none}
use Rattle.shape_eval.specs.declared.constraint.Constraint.{Constraint}
use Rattle.shape_eval.specs.Constraint.{kind_of, parameter_of}
use Rattle.shape_eval.specs.Content.{Content, Matches, Members, Names, Nothing, Permits, content_of}
use Rattle.shape_refs.specs.References.{declared_at, members_under, siblings_of}
use Rattle.shape_refs.specs.Truth.{is_true}
use Rattle.shape_compile.specs.Patterns.{flags_of, text_at}

-- ---- what a constraint says

pub record Saying : Type 0 where
  pub kind : ℕ
  pub parameter : ℕ
  pub content : Content

abbrev pub says : ℕ → Content → ℕ → Saying
says kind content parameter = record { kind = kind; parameter = parameter; content = content }

-- what a constraint of a plan says, where its shapes are of these nodes
abbrev pub said_by : List ℕ → Constraint → Saying
said_by nodes c = says (kind_of c) (content_of nodes c) (parameter_of c)

-- ---- what a declaration states

-- one constraint for each value
abbrev pub each_value : ℕ → List ℕ → List Saying
each_value kind values = map (says kind Nothing) values

-- one for each value that is true
abbrev pub each_true : List Term → ℕ → Content → List ℕ → List Saying
each_true terms kind content values = map (says kind content) (filter (is_true terms) values)

-- one for each pattern, with the flags of the shape
abbrev pub each_pattern : List Term → Flags → List ℕ → List Saying
each_pattern terms flags values = map (λ v. says PATTERN (Matches (text_at terms v) flags) v) values

-- one for each list, of its members
abbrev pub each_list : ℕ → List ListReading → List Saying
each_list kind lists = map (λ list. says kind (Members (members_or_none list.members)) list.head) lists

-- one for each shape that is named
abbrev pub each_shape : ℕ → List ℕ → List Saying
each_shape kind values = map (λ v. says kind (Names (Some v ∷ [])) v) values

-- one for each list of shapes
abbrev pub each_shape_list : ℕ → List ListReading → List Saying
each_shape_list kind lists =
    map (λ list. says kind (Names (map Some (members_or_none list.members))) list.head) lists

-- one for each count, of the qualified value shape beside its siblings
abbrev pub each_count : ℕ → List ℕ → List ℕ → List ℕ → List Saying
each_count kind siblings shapes counts =
    flat_map (λ count. map (λ shape. says kind (Names (Some shape ∷ map Some siblings)) count) shapes) counts

-- the predicate that is the path of a property shape, if its path is one
abbrev pub predicate_of : Option RouteReading → List ℕ
predicate_of (Some (Read (along p))) = p ∷ []
predicate_of reading = []

-- the predicates that are paths of the property shapes of a shape
abbrev pub permitted_by : List Declaration → Declaration → List ℕ
permitted_by ds d =
    flat_map (λ node. flat_map (λ shape. predicate_of shape.path) (declared_at ds node))
    (values_under d SH_PROPERTY)

abbrev pub closes : List Declaration → Declaration → Content
closes ds d = Permits (permitted_by ds d) (members_under d SH_IGNORED_PROPERTIES)

-- of components that judge value nodes by themselves, up to the lengths
abbrev pub value_constraints : Declaration → List Saying
value_constraints d =
    each_value CLASS (values_under d SH_CLASS)
    ++ (each_value DATATYPE (values_under d SH_DATATYPE)
    ++ (each_value NODE_KIND (values_under d SH_NODE_KIND)
    ++ (each_value MIN_COUNT (values_under d SH_MIN_COUNT)
    ++ (each_value MAX_COUNT (values_under d SH_MAX_COUNT)
    ++ (each_value MIN_EXCLUSIVE (values_under d SH_MIN_EXCLUSIVE)
    ++ (each_value MIN_INCLUSIVE (values_under d SH_MIN_INCLUSIVE)
    ++ (each_value MAX_EXCLUSIVE (values_under d SH_MAX_EXCLUSIVE)
    ++ (each_value MAX_INCLUSIVE (values_under d SH_MAX_INCLUSIVE)
    ++ (each_value MIN_LENGTH (values_under d SH_MIN_LENGTH)
    ++ each_value MAX_LENGTH (values_under d SH_MAX_LENGTH))))))))))

-- of texts: patterns and languages
abbrev pub text_constraints : List Term → Declaration → List Saying
text_constraints terms d =
    each_pattern terms (flags_of terms d) (values_under d SH_PATTERN)
    ++ (each_list LANGUAGE_IN (lists_under d SH_LANGUAGE_IN)
    ++ each_true terms UNIQUE_LANG Nothing (values_under d SH_UNIQUE_LANG))

-- of the objects of another predicate
abbrev pub pair_constraints : Declaration → List Saying
pair_constraints d =
    each_value EQUALS (values_under d SH_EQUALS)
    ++ (each_value DISJOINT (values_under d SH_DISJOINT)
    ++ (each_value LESS_THAN (values_under d SH_LESS_THAN)
    ++ each_value LESS_THAN_OR_EQUALS (values_under d SH_LESS_THAN_OR_EQUALS)))

-- of other shapes
abbrev pub shape_constraints : Declaration → List Saying
shape_constraints d =
    each_shape NOT (values_under d SH_NOT)
    ++ (each_shape_list AND (lists_under d SH_AND)
    ++ (each_shape_list OR (lists_under d SH_OR)
    ++ (each_shape_list XONE (lists_under d SH_XONE)
    ++ (each_shape NODE (values_under d SH_NODE)
    ++ each_shape PROPERTY (values_under d SH_PROPERTY)))))

-- of counts at a shape
abbrev pub count_constraints : List Term → List Declaration → Declaration → List Saying
count_constraints terms ds d =
    let siblings = siblings_of terms ds d in
    let shapes = values_under d SH_QUALIFIED_VALUE_SHAPE in
    each_count QUALIFIED_MIN_COUNT siblings shapes (values_under d SH_QUALIFIED_MIN_COUNT)
    ++ each_count QUALIFIED_MAX_COUNT siblings shapes (values_under d SH_QUALIFIED_MAX_COUNT)

-- of closed shapes, and of values that are given
abbrev pub other_constraints : List Term → List Declaration → Declaration → List Saying
other_constraints terms ds d =
    each_true terms CLOSED (closes ds d) (values_under d SH_CLOSED)
    ++ (each_value HAS_VALUE (values_under d SH_HAS_VALUE)
    ++ each_list IN (lists_under d SH_IN))

-- all that a shape states
abbrev pub constraints_stated : List Term → List Declaration → Declaration → List Saying
constraints_stated terms ds d =
    value_constraints d ++ (text_constraints terms d ++ (pair_constraints d ++ (shape_constraints d
    ++ (count_constraints terms ds d ++ other_constraints terms ds d))))
