-- Indexes: what an index is seen as, what stands under a number or two, and what an index of some triples is.
use Rattle.std.specs.Prelude.{◌≡◌, ℕ, ◌==◌, ◌&&◌, List, filter, Contains}
use Rattle.std.specs.List.Sorted.{IsStrictlySortedBy}
use Rattle.shx_term.specs.declared.triple.Triple.{Triple}
use Rattle.shx_term.specs.InOrder.{Lists}
use Rattle.triple_store.specs.inner.Arrangement.{entry_of, arranged_cmp}
use Rattle.triple_store.specs.declared.arrangement.Arrangement.{Arrangement}
use Rattle.triple_store.specs.declared.arrangement.Arrangement.TheVariants.{SubjectPredicateObject}
use Rattle.triple_store.specs.declared.arrangement.Arrangement.TheVariants.{PredicateObjectSubject}
use Rattle.triple_store.specs.declared.arrangement.Arrangement.TheVariants.{PredicateSubjectObject}

-- triples, and the arrangement in which they are kept
pub record Arranged : Type 0 where
  pub arrangement : Arrangement
  pub triples : List Triple

-- the triples ascend by their entries
abbrev pub IsArranged : Arranged → Type 0
IsArranged index = IsStrictlySortedBy (arranged_cmp index.arrangement) index.triples

-- the same of a list that is kept by subject, predicate and object
abbrev pub AreInOrder : List Triple → Type 0
AreInOrder triples = IsStrictlySortedBy (arranged_cmp SubjectPredicateObject) triples

-- the triples with this first number
abbrev pub led_by : Arranged → ℕ → List Triple
led_by index first = filter (λ t. (entry_of index.arrangement t).first == first) index.triples

-- the triples with this first and second number
abbrev pub led_by_pair : Arranged → ℕ → ℕ → List Triple
led_by_pair index first second =
    filter (λ t. ((entry_of index.arrangement t).first == first)
    && ((entry_of index.arrangement t).second == second)) index.triples

-- the third number of a triple
abbrev pub third_of : Arranged → Triple → ℕ
third_of index t = (entry_of index.arrangement t).third

-- an index of these triples in an arrangement: it has each of them once, by its entry, and no other
pub record IsIndex (triples : List Triple) (a : Arrangement) (index : Arranged) : Type 0 where
  pub arranged : index.arrangement ≡ a
  pub lists : Lists (arranged_cmp a) (Contains triples) index.triples

-- the three indexes of these triples
pub record AreIndexes (triples : List Triple) (spo pos pso : Arranged) : Type 0 where
  pub by_subject : IsIndex triples SubjectPredicateObject spo
  pub by_object : IsIndex triples PredicateObjectSubject pos
  pub by_predicate : IsIndex triples PredicateSubjectObject pso
