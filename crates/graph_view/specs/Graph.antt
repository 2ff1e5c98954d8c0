-- A graph: terms, each numbered by its place, and triples of numbers.
use Rattle.std.specs.Prelude.{◌≡◌, ℕ, ◌<◌, not, List, [], ◌∷◌, map, filter, length, Contains, ◌↔◌, ◌⊎◌, All}
use Rattle.shx_term.specs.declared.term.Term.{Term}
use Rattle.shx_term.specs.declared.triple.Triple.{Triple}
use Rattle.shx_term.specs.Triple.{same_triple}
use Rattle.shx_term.specs.IdOrder.{in_term_order}
use Rattle.shx_term.specs.Pool.{Pooled}
use Rattle.shx_term.specs.TripleOrder.{in_triple_order}
use Rattle.graph_view.specs.declared.key.Key.TheVariants.{Out, In, Subject, Predicate}
use Rattle.graph_view.specs.Key.{look}

pub record Graph : Type 0 where
  pub terms : List Term
  pub triples : List Triple

-- the terms as a pool that may hold so many
abbrev pub pooled : Graph → ℕ → Pooled
pooled g limit = record { terms = g.terms; limit = limit }

-- the numbers of a triple have terms
pub record IsKnownTriple (terms : List Term) (t : Triple) : Type 0 where
  pub s : t.s < length terms
  pub p : t.p < length terms
  pub o : t.o < length terms

-- every number in a triple has a term
abbrev pub AllKnown : Graph → Type 0
AllKnown g = All (IsKnownTriple g.terms) g.triples

-- the numbers have terms
abbrev pub HasTerms : Graph → List ℕ → Type 0
HasTerms g ids = All (λ id. id < length g.terms) ids

-- each triple of a list at its first place
abbrev pub first_places : List Triple → List Triple
first_places [] = []
first_places (t ∷ ts) = t ∷ filter (λ u. not (same_triple t u)) (first_places ts)

-- the graph of a list of triples, such as those of a text, in which a triple may stand more than once
abbrev pub graph_of : List Term → List Triple → Graph
graph_of terms triples = record { terms = terms; triples = first_places triples }

-- the objects of a subject and predicate, in term order
abbrev pub objects_of : Graph → ℕ → ℕ → List ℕ
objects_of g s p = in_term_order g.terms (map (λ t. t.o) (look g.triples (Out s p)))

-- the subjects of a predicate and object, in term order
abbrev pub subjects_of : Graph → ℕ → ℕ → List ℕ
subjects_of g p o = in_term_order g.terms (map (λ t. t.s) (look g.triples (In p o)))

-- the triples of a subject, by predicate and object
abbrev pub triples_of : Graph → ℕ → List Triple
triples_of g s = in_triple_order g.terms (look g.triples (Subject s))

-- the triples of a predicate, by subject and object
abbrev pub triples_with : Graph → ℕ → List Triple
triples_with g p = in_triple_order g.terms (look g.triples (Predicate p))

-- h holds the triples of g and t, and no others
pub record HasAlso (g h : List Triple) (t : Triple) : Type 0 where
  pub each : (u : Triple) → Contains h u ↔ (Contains g u ⊎ (u ≡ t))

-- h holds the triples of g other than t, and no others
pub record IsWithout (g h : List Triple) (t : Triple) : Type 0 where
  pub each : (u : Triple) → Contains h u ↔ (Contains g u × (u ≡ t → ⊥))

-- as many triples as the limit are held, and t is none of them
pub record IsAtLimit (triples : List Triple) (limit : ℕ) (t : Triple) : Type 0 where
  pub at_limit : length triples ≡ limit
  pub absent : Contains triples t → ⊥

-- fewer triples than the limit are held, and t is none of them
pub record HasRoomForTriple (triples : List Triple) (limit : ℕ) (t : Triple) : Type 0 where
  pub below_limit : length triples < limit
  pub absent : Contains triples t → ⊥
