-- What follows of shapes that have no faults.
use Rattle.std.specs.Prelude.{◌≡◌, ℕ, ◌≤◌, true, false, List, [], length, Contains, Some, None, codes}
use Rattle.std.specs.Prelude.{Bool, slice_get}
use Rattle.shx_term.specs.declared.limits.Limits.{Limits}
use Rattle.shx_term.specs.declared.term.Literal.{Literal}
use Rattle.shx_term.specs.declared.term.Term.{Term}
use Rattle.shx_term.specs.declared.term.Term.TheVariants.{Lit}
use Rattle.shx_term.specs.declared.vocabulary.TheConstants.{SH_PATH, SH_NODE, SH_PROPERTY, SH_FLAGS}
use Rattle.graph_view.specs.Graph.{Graph}
use Rattle.path_eval.specs.Route.{Route}
use Rattle.shape_decl.specs.Declarations.{Declaration, ListReading, declarations, lists_under, values_under}
use Rattle.shape_decl.specs.Laws.{HasReadItsPath}
use Rattle.shape_decl.specs.PathReadings.{RouteReading, Read}
use Rattle.shape_check.specs.declared.kind.Expected.TheVariants.{Each, Lists}
use Rattle.shape_check.specs.declared.kind.ValueKind.{ValueKind}
use Rattle.shape_check.specs.Faults.{faults, graph_faults, has_path}
use Rattle.value_space.specs.Values.{value_of}
use Rattle.value_space.specs.declared.value.Value.TheVariants.{Num, Bool as Truth}
use Rattle.shape_check.specs.Kinds.{is_boolean, is_integer, is_of_kind}
use Rattle.shape_check.specs.Restrictions.{property_parameters, restriction_of}

-- a shape, among others, that breaks no rule
pub record IsWellFormed (terms : List Term) (ds : List Declaration) (d : Declaration) : Type 0 where
  -- a value of a parameter that expects lists is one
  pub lists : (p : ℕ) (list : ListReading) → Contains (lists_under d p) list
      → (members : List ℕ) × (list.members ≡ Some members)
  -- a predicate that takes one value has no second
  pub one : (p : ℕ) → (restriction_of p).one ≡ true → length (values_under d p) ≤ 1
  -- a value is of its kind
  pub values : (p : ℕ) (kind : ValueKind) (value : ℕ) → (restriction_of p).expected ≡ Each kind
      → Contains (values_under d p) value → is_of_kind terms kind value ≡ true
  -- and so is a member of a list
  pub members : (p : ℕ) (kind : ValueKind) (list : ListReading) (members : List ℕ) (member : ℕ)
      → (restriction_of p).expected ≡ Lists kind → Contains (lists_under d p) list
      → list.members ≡ Some members → Contains members member → is_of_kind terms kind member ≡ true
  -- the path is one, within the limits
  pub path : (reading : RouteReading) → d.path ≡ Some reading → (route : Route) × (reading ≡ Read route)
  -- a value of sh:property has a path, and none of sh:node has one
  pub properties : (value : ℕ) → Contains (values_under d SH_PROPERTY) value → has_path ds value ≡ true
  pub nodes : (value : ℕ) → Contains (values_under d SH_NODE) value → has_path ds value ≡ false
  -- an instance of sh:NodeShape has no sh:path
  pub instance : d.is_node_shape ≡ true → values_under d SH_PATH ≡ []
  -- what belongs to property shapes alone is at shapes with a path
  pub property_shape : d.path ≡ None → (p : ℕ) → Contains property_parameters p → values_under d p ≡ []
  -- each flag is one of four
  pub flags : (value : ℕ) (literal : Literal) → Contains (values_under d SH_FLAGS) value
      → slice_get terms value ≡ Some (Lit literal) → (flag : ℕ) → Contains literal.lexical flag
      → Contains (codes "imsx") flag

-- no more than the limit, and each well formed
pub record AreWellFormed (limits : Limits) (terms : List Term) (ds : List Declaration) : Type 0 where
  pub few : length ds ≤ limits.shapes
  pub each : (d : Declaration) → Contains ds d → IsWellFormed terms ds d

-- of declarations that have read a path where there is a value of sh:path, as all do that are of a graph
abbrev pub AcceptedShapesAreWellFormed : Type 0
AcceptedShapesAreWellFormed =
    (limits : Limits) (terms : List Term) (ds : List Declaration) → faults limits terms ds ≡ []
    → ((d : Declaration) → Contains ds d → HasReadItsPath d) → AreWellFormed limits terms ds

abbrev pub AcceptedGraphsAreWellFormed : Type 0
AcceptedGraphsAreWellFormed =
    (limits : Limits) (g : Graph) → graph_faults limits g ≡ []
    → AreWellFormed limits g.terms (declarations limits g)

-- ---- literals

-- a literal with a language tag has no other value than itself
abbrev pub BooleansHaveTruthValues : Type 0
BooleansHaveTruthValues =
    (literal : Literal) → literal.tag ≡ None → is_boolean literal ≡ true
    → (truth : Bool) × (value_of literal ≡ Truth truth)

abbrev pub IntegersAreNumbers : Type 0
IntegersAreNumbers =
    (literal : Literal) → literal.tag ≡ None → is_integer literal ≡ true
    → (negative : Bool) × (whole : ℕ) × (fraction : ℕ) × (value_of literal ≡ Num negative whole fraction)
