-- What a path says (SHACL, section 2.3.1), without the places in memory at which its parts stand.
use Rattle.std.specs.Prelude.{ℕ, ◌+◌, max, List, [], ◌∷◌, ◌++◌}
use Rattle.path_eval.specs.declared.path.Path.{Path, Row_of-Path, end_of-Path, more_of-Path}
use Rattle.path_eval.specs.declared.path.Path.{Pred, Seq', Alt', Inverse', ZeroOrMore', OneOrMore'}
use Rattle.path_eval.specs.declared.path.Path.{ZeroOrOne'}

pub data Route : Type 0 where
  -- from the subject of a triple with this predicate to its object
  along : ℕ → Route
  here : Route
  first_then : Route → Route → Route
  none : Route
  one_or_other : Route → Route → Route
  turned : Route → Route
  any_times : Route → Route
  some_times : Route → Route
  perhaps : Route → Route

-- one part after the other; any one of the members
abbrev pub sequence : List Route → Route
sequence [] = here
sequence (r ∷ rs) = first_then r (sequence rs)

abbrev pub alternative : List Route → Route
alternative [] = none
alternative (r ∷ rs) = one_or_other r (alternative rs)

abbrev mutual
  pub route_of : Path → Route
  route_of (Pred p) = along p
  route_of (Seq' shape parts) = in_sequence parts
  route_of (Alt' shape members) = among members
  route_of (Inverse' box p) = turned (route_of p)
  route_of (ZeroOrMore' box p) = any_times (route_of p)
  route_of (OneOrMore' box p) = some_times (route_of p)
  route_of (ZeroOrOne' box p) = perhaps (route_of p)

  -- of the parts as they stand in a vector
  pub in_sequence : {m : _} → Row_of-Path m → Route
  in_sequence end_of-Path = here
  in_sequence (more_of-Path p parts) = first_then (route_of p) (in_sequence parts)

  pub among : {m : _} → Row_of-Path m → Route
  among end_of-Path = none
  among (more_of-Path p members) = one_or_other (route_of p) (among members)

-- how deep a path nests: a predicate once, and what stands around a path once more than it; the parts of a
-- sequence, as the members of an alternative, stand side by side
abbrev pub nesting : Route → ℕ
nesting (along p) = 1
nesting here = 0
nesting (first_then r s) = max (nesting r + 1) (nesting s)
nesting none = 0
nesting (one_or_other r s) = max (nesting r + 1) (nesting s)
nesting (turned r) = nesting r + 1
nesting (any_times r) = nesting r + 1
nesting (some_times r) = nesting r + 1
nesting (perhaps r) = nesting r + 1

-- the predicates that stand in a path
abbrev pub predicates_in : Route → List ℕ
predicates_in (along p) = p ∷ []
predicates_in here = []
predicates_in (first_then r s) = predicates_in r ++ predicates_in s
predicates_in none = []
predicates_in (one_or_other r s) = predicates_in r ++ predicates_in s
predicates_in (turned r) = predicates_in r
predicates_in (any_times r) = predicates_in r
predicates_in (some_times r) = predicates_in r
predicates_in (perhaps r) = predicates_in r
