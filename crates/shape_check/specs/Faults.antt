-- The faults of shapes (SHACL, sections 2 to 4), in the order in which they are told: shape by shape, rule by
-- rule, predicate by predicate, and then term by term.
use Rattle.std.specs.Prelude.{◌≡◌, ℕ, ◌==◌, Bool, true, false, ◌&&◌, not, List, [], ◌∷◌, ◌++◌, map}
use Rattle.std.specs.Prelude.{flat_map, filter, take, drop, Option, Some, None, slice_get, codes}
use Rattle.std.specs.Prelude.{if◌then◌else◌, ⊤}
use Rattle.std.specs.List.{list_any}
use Rattle.std.specs.Option.{is_none, is_some}
use Rattle.shx_term.specs.declared.fault_codes.TheConstants.{BAD_LIST, TOO_MANY_VALUES, WRONG_KIND}
use Rattle.shx_term.specs.declared.fault_codes.TheConstants.{NOT_ON_NODE_SHAPE, BAD_PATH}
use Rattle.shx_term.specs.declared.fault_codes.TheConstants.{NOT_A_PROPERTY_SHAPE, NOT_A_NODE_SHAPE}
use Rattle.shx_term.specs.declared.fault_codes.TheConstants.{BAD_FLAGS, TOO_MANY_SHAPES, PATH_TOO_DEEP}
use Rattle.shx_term.specs.declared.limits.Limits.{Limits}
use Rattle.shx_term.specs.declared.term.Literal.{Literal}
use Rattle.shx_term.specs.declared.term.Term.{Term}
use Rattle.shx_term.specs.declared.vocabulary.TheConstants.{SH_PATH, SH_NODE, SH_PROPERTY, SH_FLAGS}
use Rattle.graph_view.specs.Graph.{Graph}
use Rattle.shape_decl.specs.Declarations.{Declaration, Values, declarations, lists_under}
use Rattle.shape_decl.specs.PathReadings.{RouteReading, Read, Broken as BrokenPath, TooDeep as DeepPath}
use Rattle.shape_decl.specs.Shapes.{members_or_none}
use Rattle.shape_check.specs.declared.fault.CheckFault.{CheckFault}
use Rattle.shape_check.specs.declared.fault.CheckFault.TheVariants.{Shape, Memory}
use Rattle.shape_check.specs.declared.fault.ShapeFault.{ShapeFault}
use Rattle.shape_check.specs.declared.kind.Expected.{Expected}
use Rattle.shape_check.specs.declared.kind.Expected.TheVariants.{Each, Lists}
use Rattle.shape_check.specs.declared.kind.ValueKind.{ValueKind}
use Rattle.shape_check.specs.declared.rule.Rule.{Rule}
use Rattle.shape_check.specs.declared.rule.Rule.TheVariants.{BadList, TooManyValues, WrongKind}
use Rattle.shape_check.specs.declared.rule.Rule.TheVariants.{NotOnNodeShape, BadPath, NotAPropertyShape}
use Rattle.shape_check.specs.declared.rule.Rule.TheVariants.{NotANodeShape, BadFlags, PathTooDeep}
use Rattle.shape_check.specs.Kinds.{is_of_kind, literal_is}
use Rattle.shape_check.specs.Restrictions.{restriction_of, property_parameters, is_one_of}

-- ---- what a declaration says

-- the node is a property shape
abbrev pub has_path : List Declaration → ℕ → Bool
has_path ds node = list_any (λ d. d.node == node && is_some d.path) ds

abbrev pub is_broken : Option RouteReading → Bool
is_broken (Some (Read route)) = false
is_broken (Some BrokenPath) = true
is_broken (Some DeepPath) = false
is_broken None = false

abbrev pub is_too_deep : Option RouteReading → Bool
is_too_deep (Some (Read route)) = false
is_too_deep (Some BrokenPath) = false
is_too_deep (Some DeepPath) = true
is_too_deep None = false

-- ---- the terms at which a shape breaks a rule, among the values of one predicate

-- what is to be of one kind
abbrev pub judged : Expected → Declaration → Values → List ℕ
judged (Each kind) d v = v.values
judged (Lists kind) d v = flat_map (λ list. members_or_none list.members) (lists_under d v.predicate)

abbrev pub kind_of : Expected → ValueKind
kind_of (Each kind) = kind
kind_of (Lists kind) = kind

abbrev pub first_if : Bool → List ℕ → List ℕ
first_if broken values = if broken then take 1 values else []

-- a character that is none of the flags of a pattern
abbrev pub has_unknown_flag : Literal → Bool
has_unknown_flag literal = list_any (λ c. not (is_one_of (codes "imsx") c)) literal.lexical

abbrev pub offenders : Rule → List Term → List Declaration → Declaration → Values → List ℕ
-- a value is no list
offenders BadList terms ds d v =
    map (λ list. list.head) (filter (λ list. is_none list.members) (lists_under d v.predicate))
-- there is a second value
offenders TooManyValues terms ds d v = first_if (restriction_of v.predicate).one (drop 1 v.values)
-- a value, or a member of a list, is of another kind
offenders WrongKind terms ds d v =
    let expected = (restriction_of v.predicate).expected in
    filter (λ n. not (is_of_kind terms (kind_of expected) n)) (judged expected d v)
-- a node shape has what belongs to property shapes
offenders NotOnNodeShape terms ds d v =
    first_if (is_none d.path && is_one_of property_parameters v.predicate) v.values
-- the path is none
offenders BadPath terms ds d v = first_if (v.predicate == SH_PATH && is_broken d.path) v.values
-- a value of sh:property is no property shape
offenders NotAPropertyShape terms ds d v =
    if v.predicate == SH_PROPERTY then filter (λ n. not (has_path ds n)) v.values else []
-- a node shape has a path, or a value of sh:node has one
offenders NotANodeShape terms ds d v =
    first_if (v.predicate == SH_PATH && d.is_node_shape) v.values
    ++ (if v.predicate == SH_NODE then filter (has_path ds) v.values else [])
-- a flag is none of the four
offenders BadFlags terms ds d v =
    if v.predicate == SH_FLAGS then filter (λ n. literal_is has_unknown_flag (slice_get terms n)) v.values
    else []
-- the path is deeper, or has more parts, than the limits allow
offenders PathTooDeep terms ds d v = first_if (v.predicate == SH_PATH && is_too_deep d.path) v.values

-- ---- the faults

unfoldable pub rules : List Rule
rules =
    BadList ∷ TooManyValues ∷ WrongKind ∷ NotOnNodeShape ∷ BadPath ∷ NotAPropertyShape ∷ NotANodeShape
    ∷ BadFlags ∷ PathTooDeep ∷ []

abbrev pub code_of : Rule → ℕ
code_of BadList = BAD_LIST
code_of TooManyValues = TOO_MANY_VALUES
code_of WrongKind = WRONG_KIND
code_of NotOnNodeShape = NOT_ON_NODE_SHAPE
code_of BadPath = BAD_PATH
code_of NotAPropertyShape = NOT_A_PROPERTY_SHAPE
code_of NotANodeShape = NOT_A_NODE_SHAPE
code_of BadFlags = BAD_FLAGS
code_of PathTooDeep = PATH_TOO_DEEP

abbrev pub fault_at : Rule → Declaration → ℕ → ℕ → ShapeFault
fault_at rule d predicate term =
    record { code = code_of rule; shape = d.node; predicate = Some predicate; term = Some term }

abbrev pub faults_by : List Term → List Declaration → Declaration → Rule → List ShapeFault
faults_by terms ds d rule =
    flat_map (λ v. map (fault_at rule d v.predicate) (offenders rule terms ds d v)) d.values

abbrev pub faults_of : List Term → List Declaration → Declaration → List ShapeFault
faults_of terms ds d = flat_map (faults_by terms ds d) rules

-- a node is one shape too many
abbrev pub past_limit : ℕ → ShapeFault
past_limit node = record { code = TOO_MANY_SHAPES; shape = node; predicate = None; term = None }

-- where there are shapes past the limit, the first of these alone is told
abbrev pub faults_before : List Term → List Declaration → List Declaration → List ShapeFault
faults_before terms ds [] = flat_map (faults_of terms ds) ds
faults_before terms ds (d ∷ past) = past_limit d.node ∷ []

unfoldable pub faults : Limits → List Term → List Declaration → List ShapeFault
faults limits terms ds = faults_before terms ds (drop limits.shapes ds)

-- the faults of a shapes graph
abbrev pub graph_faults : Limits → Graph → List ShapeFault
graph_faults limits g = faults limits g.terms (declarations limits g)

-- ---- what a check answers

abbrev pub first : {X : Type 0} → List X → Option X
first [] = None
first (x ∷ xs) = Some x

-- the first of the faults is told, or memory was wanting
abbrev pub Tells : List ShapeFault → CheckFault → Type 0
Tells faults (Shape fault) = first faults ≡ Some fault
Tells faults Memory = ⊤
