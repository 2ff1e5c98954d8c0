-- What a plan needs of declared shapes, and has where they have no fault.
use Rattle.std.specs.Prelude.{◌≡◌, ℕ, ◌<◌, ◌≤◌, ◌^◌, nat_eq, List, length, map, All, Contains, Some}
use Rattle.std.specs.List.{IsDistinct}
use Rattle.std.specs.List.Sorted.{IsStrictlySortedBy}
use Rattle.shx_term.specs.declared.limits.Limits.{Limits}
use Rattle.shx_term.specs.declared.term.Term.{Term}
use Rattle.shx_term.specs.declared.vocabulary.TheConstants.{SH_QUALIFIED_VALUE_SHAPE, SH_VIOLATION}
use Rattle.shx_term.specs.declared.vocabulary.TheConstants.{SH_QUALIFIED_MIN_COUNT, SH_QUALIFIED_MAX_COUNT}
use Rattle.shx_term.specs.declared.vocabulary.TheConstants.{VOCABULARY_LEN}
use Rattle.shx_term.specs.IdOrder.{id_cmp}
use Rattle.path_eval.specs.Route.{Route, nesting, predicates_in}
use Rattle.shape_decl.specs.Declarations.{Declaration, ListReading, lists_under, values_under}
use Rattle.shape_decl.specs.PathReadings.{Read}
use Rattle.shape_decl.specs.Shapes.{members_or_none}
use Rattle.shape_decl.specs.Tables.{list_predicates}
use Rattle.shape_refs.specs.Order.{NameDeclared, StandInOrder, nodes_declared}
use Rattle.shape_compile.specs.inner.Built.{HaveOnePattern, HavePaths}

-- the numbers have terms
abbrev pub AreKnown : List Term → List ℕ → Type 0
AreKnown terms ids = All (λ id. id < length terms) ids

-- values have terms, and stand in their order, each once
pub record AreValues (terms : List Term) (values : List ℕ) : Type 0 where
  pub known : AreKnown terms values
  pub sorted : IsStrictlySortedBy (id_cmp terms) values

-- lists stand in the order of the values that head them, and their members have terms
pub record AreLists (terms : List Term) (heads : List ℕ) (lists : List ListReading) : Type 0 where
  pub heads_are : map (λ list. list.head) lists ≡ heads
  pub members : (list : ListReading) → Contains lists list → AreKnown terms (members_or_none list.members)

-- a path has terms, and nests no deeper than so many levels
pub record IsPathWithin (terms : List Term) (levels : ℕ) (route : Route) : Type 0 where
  pub known : AreKnown terms (predicates_in route)
  pub shallow : nesting route ≤ levels

pub record IsReady (limits : Limits) (terms : List Term) (d : Declaration) : Type 0 where
  pub node : d.node < length terms
  pub values : (p : ℕ) → p < VOCABULARY_LEN → AreValues terms (values_under d p)
  pub lists : (p : ℕ) → Contains list_predicates p → AreLists terms (values_under d p) (lists_under d p)
  pub path : (route : Route) → d.path ≡ Some (Read route) → IsPathWithin terms limits.path_depth route
  -- a count at a shape is one count, and one shape
  pub least : length (values_under d SH_QUALIFIED_MIN_COUNT) ≤ 1
  pub most : length (values_under d SH_QUALIFIED_MAX_COUNT) ≤ 1
  pub qualified : length (values_under d SH_QUALIFIED_VALUE_SHAPE) ≤ 1

pub record AreReady (limits : Limits) (terms : List Term) (ds : List Declaration) : Type 0 where
  pub few : length ds < 2 ^ 32
  pub ascending : StandInOrder terms ds
  pub distinct : IsDistinct nat_eq (nodes_declared ds)
  pub named : NameDeclared ds
  pub patterns : HaveOnePattern ds
  pub paths : HavePaths ds
  pub violation : SH_VIOLATION < length terms
  pub each : (d : Declaration) → Contains ds d → IsReady limits terms d
