-- What a document is for the state that is reached at its end.
use Rattle.std.specs.Prelude.{◌≡◌, ℕ, ◌-◌, List, map, Contains, ◌↔◌, Some, String, true, All}
use Rattle.std.specs.BTreeMap.{BTreeMap, get_by_text}
use Rattle.std.specs.BTreeSet.{BTreeSet, contains_text}
use Rattle.std.specs.Cmp.Lexicographic.{slice_cmp}
use Rattle.std.specs.Ordering.{nat_cmp}
use Rattle.shx_term.specs.InOrder.{Lists}
use Rattle.shx_term.specs.Pool.{Pooled}
use Rattle.shx_term.specs.TripleTerms.{numbered_all}
use Rattle.shx_term.specs.ValidTriples.{IsValidTermTriple}
use Rattle.iri_resolve.specs.Resolution.{IsAbsolute}
use Rattle.ttl_meaning.specs.declared.document.Document.{Document}
use Rattle.ttl_meaning.specs.declared.document.Prefix.{Prefix}
use Rattle.ttl_meaning.specs.inner.Ascending.{AreAscending}
use Rattle.ttl_meaning.specs.IsStated.{Bounds, terms_with}
use Rattle.ttl_meaning.specs.State.{State}
use Rattle.ttl_meaning.specs.Terms.{namespace_of}

-- the names go up, and each has its latest namespace; no other name has one
pub record IsPrefixTable (s : State) (table : List Prefix) : Type 0 where
  pub sorted : AreAscending (map (λ (p : Prefix). p.name) table)
  pub each : (p : Prefix) → Contains table p ↔ (namespace_of p.name s.prefixes ≡ Some p.iri)

pub record IsDocumentOf (bounds : Bounds) (s : State) (document : Document) (pool : Pooled) : Type 0 where
  -- the pool gained the terms of the triples
  pub terms : pool.terms ≡ terms_with bounds s.triples
  pub limit : pool.limit ≡ bounds.terms
  pub triples : document.triples.items ≡ numbered_all pool.terms s.triples
  pub valid : All IsValidTermTriple s.triples
  pub prefixes : IsPrefixTable s document.prefixes.items
  pub base : document.base ≡ s.base
  pub absolute : IsAbsolute document.base
  pub labels : Lists (slice_cmp nat_cmp) (Contains s.labels) document.labels.items
  pub anonymous : document.anonymous ≡ s.next - 1

-- ---- from a map and a set

-- the names go up, and each has what the map has for it; for no other name has the map anything
pub record ArePrefixes {A : Type 0} (m : BTreeMap (String A) (List ℕ)) (table : List Prefix) : Type 0 where
  pub sorted : AreAscending (map (λ (p : Prefix). p.name) table)
  pub each : (p : Prefix) → Contains table p ↔ (get_by_text m p.name ≡ Some p.iri)

-- the texts of the set, in order
abbrev pub AreLabels : {A : Type 0} → BTreeSet (String A) → List (List ℕ) → Type 0
AreLabels m table = Lists (slice_cmp nat_cmp) (λ label. contains_text m label ≡ true) table
