-- Arrangements: which of a triple's numbers an index compares first, second and third.
use Rattle.std.specs.Prelude.{◌<◌, ◌^◌}
use Rattle.std.specs.declared.cmp.Ordering.{Ordering}
use Rattle.std.specs.Ordering.{nat_cmp, ordering_then}
use Rattle.shx_term.specs.declared.triple.Triple.{Triple}
use Rattle.triple_store.specs.declared.arrangement.Arrangement.{Arrangement}
use Rattle.triple_store.specs.declared.arrangement.Arrangement.TheVariants.{SubjectPredicateObject}
use Rattle.triple_store.specs.declared.arrangement.Arrangement.TheVariants.{PredicateObjectSubject}
use Rattle.triple_store.specs.declared.arrangement.Arrangement.TheVariants.{PredicateSubjectObject}
use Rattle.triple_store.specs.declared.arrangement.Entry.{Entry}

-- the entry of a triple
abbrev pub entry_of : Arrangement → Triple → Entry
entry_of SubjectPredicateObject t = record { first = t.s; second = t.p; third = t.o }
entry_of PredicateObjectSubject t = record { first = t.p; second = t.o; third = t.s }
entry_of PredicateSubjectObject t = record { first = t.p; second = t.s; third = t.o }

-- the triple of an entry
abbrev pub triple_at : Arrangement → Entry → Triple
triple_at SubjectPredicateObject e = record { s = e.first; p = e.second; o = e.third }
triple_at PredicateObjectSubject e = record { s = e.third; p = e.first; o = e.second }
triple_at PredicateSubjectObject e = record { s = e.second; p = e.first; o = e.third }

-- entries compare by their first numbers, then by their second, then by their third
abbrev pub entry_cmp : Entry → Entry → Ordering
entry_cmp d e =
    ordering_then (nat_cmp d.first e.first)
    (ordering_then (nat_cmp d.second e.second) (nat_cmp d.third e.third))

-- triples compare as their entries do
abbrev pub arranged_cmp : Arrangement → Triple → Triple → Ordering
arranged_cmp a t u = entry_cmp (entry_of a t) (entry_of a u)

-- the three are numbers of terms, which have 32 bits
pub record HasNumbers (e : Entry) : Type 0 where
  pub first : e.first < 2 ^ 32
  pub second : e.second < 2 ^ 32
  pub third : e.third < 2 ^ 32
