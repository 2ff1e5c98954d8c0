-- The numbers in declarations: each has a term.
use Rattle.std.specs.Prelude.{◌≡◌, ℕ, ◌<◌, List, Contains, Some, length}
use Rattle.shx_term.specs.declared.limits.Limits.{Limits}
use Rattle.graph_view.specs.Graph.{Graph, AllKnown, HasTerms}
use Rattle.path_eval.specs.Route.{Route, along, here, first_then, none, one_or_other, turned, any_times}
use Rattle.path_eval.specs.Route.{some_times, perhaps}
use Rattle.shape_decl.specs.Declarations.{Declaration, ListReading, Values, declarations}
use Rattle.shape_decl.specs.PathReadings.{Read}

-- the predicates of a path have terms
abbrev pub AreKnownAlong : Graph → Route → Type 0
AreKnownAlong g (along p) = p < length g.terms
AreKnownAlong g here = Unit {0}
AreKnownAlong g (first_then a b) = AreKnownAlong g a × AreKnownAlong g b
AreKnownAlong g none = Unit {0}
AreKnownAlong g (one_or_other a b) = AreKnownAlong g a × AreKnownAlong g b
AreKnownAlong g (turned a) = AreKnownAlong g a
AreKnownAlong g (any_times a) = AreKnownAlong g a
AreKnownAlong g (some_times a) = AreKnownAlong g a
AreKnownAlong g (perhaps a) = AreKnownAlong g a

pub record HasKnownNumbers (g : Graph) (d : Declaration) : Type 0 where
  pub node : d.node < length g.terms
  pub values : (row : Values) → Contains d.values row → HasTerms g row.values
  pub heads : (list : ListReading) → Contains d.lists list → list.head < length g.terms
  pub members : (list : ListReading) (members : List ℕ) → Contains d.lists list
      → list.members ≡ Some members → HasTerms g members
  pub path : (route : Route) → d.path ≡ Some (Read route) → AreKnownAlong g route

abbrev pub DeclaredNumbersHaveTerms : Type 0
DeclaredNumbersHaveTerms =
    (limits : Limits) (g : Graph) → AllKnown g → (d : Declaration) → Contains (declarations limits g) d
    → HasKnownNumbers g d
