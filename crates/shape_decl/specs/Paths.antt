-- SHACL property paths (SHACL, section 2.3.1), in its own words; and which of them are read.
use Rattle.std.specs.Prelude.{◌≡◌, ℕ, ◌+◌, ◌≤◌, zero, suc, true, List, [], ◌∷◌, length, Some, ◌↔◌, slice_get}
use Rattle.shx_term.specs.declared.limits.Limits.{Limits}
use Rattle.shx_term.specs.declared.term.BlankName.{BlankName}
use Rattle.shx_term.specs.declared.term.Term.TheVariants.{Blank}
use Rattle.shx_term.specs.declared.vocabulary.TheConstants.{SH_ALTERNATIVE_PATH, SH_INVERSE_PATH}
use Rattle.shx_term.specs.declared.vocabulary.TheConstants.{SH_ZERO_OR_MORE_PATH, SH_ONE_OR_MORE_PATH}
use Rattle.shx_term.specs.declared.vocabulary.TheConstants.{SH_ZERO_OR_ONE_PATH}
use Rattle.shx_term.specs.TermKinds.{is_iri}
use Rattle.graph_view.specs.Graph.{Graph, triples_of}
use Rattle.path_eval.specs.Route.{Route, along, turned, any_times, some_times, perhaps, sequence, alternative}
use Rattle.shape_decl.specs.Lists.{IsList}
use Rattle.shape_decl.specs.PathReadings.{Read, path_reading}

abbrev pub IsIri : Graph → ℕ → Type 0
IsIri g node = is_iri (slice_get g.terms node) ≡ true

abbrev pub IsBlank : Graph → ℕ → Type 0
IsBlank g node = (name : BlankName) × (slice_get g.terms node ≡ Some (Blank name))

-- of this blank node one triple is stated, and no other: with this predicate, and this object
abbrev pub StatesOnly : Graph → ℕ → ℕ → ℕ → Type 0
StatesOnly g node p o = IsBlank g node × (triples_of g node ≡ record { s = node; p = p; o = o } ∷ [])

-- a list of at least two members
abbrev pub IsListOfSeveral : Graph → ℕ → List ℕ → Type 0
IsListOfSeveral g head members = IsList g head members × 2 ≤ length members

-- each member is a path; so many parts are in all of them
abbrev pub ArePaths : (ℕ → Route → ℕ → Type 0) → List ℕ → List Route → ℕ → Type 0
ArePaths IsInside [] [] parts = parts ≡ 0
ArePaths IsInside (node ∷ nodes) (route ∷ routes) parts =
    (first more : ℕ) × IsInside node route first × ArePaths IsInside nodes routes more
    × (parts ≡ first + more)
ArePaths IsInside nodes routes parts = ⊥

-- the node is a path with this meaning, by the paths that stand inside it, and it has so many parts: itself,
-- and those of the paths inside
pub data IsPathBy (g : Graph) (IsInside : ℕ → Route → ℕ → Type 0) (node : ℕ) (route : Route) (parts : ℕ)
    : Type 0 where
  PredicatePath : IsIri g node → route ≡ along node → parts ≡ 1 → IsPathBy g IsInside node route parts
  SequencePath : IsBlank g node → (members : List ℕ) → IsListOfSeveral g node members
      → (routes : List Route) (n : ℕ) → ArePaths IsInside members routes n
      → route ≡ sequence routes → parts ≡ n + 1 → IsPathBy g IsInside node route parts
  AlternativePath : (head : ℕ) → StatesOnly g node SH_ALTERNATIVE_PATH head
      → (members : List ℕ) → IsListOfSeveral g head members
      → (routes : List Route) (n : ℕ) → ArePaths IsInside members routes n
      → route ≡ alternative routes → parts ≡ n + 1 → IsPathBy g IsInside node route parts
  InversePath : (inner : ℕ) → StatesOnly g node SH_INVERSE_PATH inner
      → (r : Route) (n : ℕ) → IsInside inner r n
      → route ≡ turned r → parts ≡ n + 1 → IsPathBy g IsInside node route parts
  ZeroOrMorePath : (inner : ℕ) → StatesOnly g node SH_ZERO_OR_MORE_PATH inner
      → (r : Route) (n : ℕ) → IsInside inner r n
      → route ≡ any_times r → parts ≡ n + 1 → IsPathBy g IsInside node route parts
  OneOrMorePath : (inner : ℕ) → StatesOnly g node SH_ONE_OR_MORE_PATH inner
      → (r : Route) (n : ℕ) → IsInside inner r n
      → route ≡ some_times r → parts ≡ n + 1 → IsPathBy g IsInside node route parts
  ZeroOrOnePath : (inner : ℕ) → StatesOnly g node SH_ZERO_OR_ONE_PATH inner
      → (r : Route) (n : ℕ) → IsInside inner r n
      → route ≡ perhaps r → parts ≡ n + 1 → IsPathBy g IsInside node route parts

-- a path that nests no more than so many levels; so one that stands inside itself is none, at any level
abbrev pub IsPath : Graph → ℕ → ℕ → Route → ℕ → Type 0
IsPath g zero node route parts = ⊥
IsPath g (suc levels) node route parts = IsPathBy g (IsPath g levels) node route parts

-- what is read where a path is expected is exactly a path within the limits of levels and of parts
abbrev pub PathsAreRead : Type 0
PathsAreRead = (limits : Limits) (g : Graph) (head : ℕ) (route : Route)
    → (path_reading limits g head ≡ Read route)
    ↔ ((parts : ℕ) × IsPath g limits.path_depth head route parts × parts ≤ limits.path_parts)
