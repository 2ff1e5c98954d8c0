-- Arrangements: a triple and its entry make each other, and their order is total and exact.
use Rattle.std.specs.Prelude.{◌≡◌, ℕ, ◌<◌, ◌^◌}
use Rattle.std.specs.Cmp.{IsTotalOrder, nat_cmp_total, on_total, then_total}
use Rattle.std.specs.Ordering.{nat_cmp}
use Rattle.std.proofs.Common.{refl, sym, ap, ◌∙◌}
use Rattle.std.proofs.lemmas.Map.Lookups.{CmpEqualImpliesEq, exact_pairs, exact_unsigned}
use Rattle.shx_term.specs.InOrder.{IsExactOrder}
use Rattle.shx_term.specs.declared.triple.Triple.{Triple}
use Rattle.triple_store.specs.inner.Arrangement.{entry_of, triple_at, entry_cmp, arranged_cmp, HasNumbers}
use Rattle.triple_store.specs.declared.arrangement.Arrangement.{Arrangement}
use Rattle.triple_store.specs.declared.arrangement.Arrangement.TheVariants.{SubjectPredicateObject}
use Rattle.triple_store.specs.declared.arrangement.Arrangement.TheVariants.{PredicateObjectSubject}
use Rattle.triple_store.specs.declared.arrangement.Arrangement.TheVariants.{PredicateSubjectObject}
use Rattle.triple_store.specs.declared.arrangement.Entry.{Entry}

pub triple_back : (a : Arrangement) (t : Triple) → triple_at a (entry_of a t) ≡ t
triple_back SubjectPredicateObject t = refl
triple_back PredicateObjectSubject t = refl
triple_back PredicateSubjectObject t = refl

pub entry_back : (a : Arrangement) (e : Entry) → entry_of a (triple_at a e) ≡ e
entry_back SubjectPredicateObject e = refl
entry_back PredicateObjectSubject e = refl
entry_back PredicateSubjectObject e = refl

-- what a triple's numbers are, those of its entry are
pub HasNumbers-entry : (a : Arrangement) (t : Triple) → t.s < 2 ^ 32 → t.p < 2 ^ 32 → t.o < 2 ^ 32
    → HasNumbers (entry_of a t)
HasNumbers-entry SubjectPredicateObject t s p o = record { first = s; second = p; third = o }
HasNumbers-entry PredicateObjectSubject t s p o = record { first = p; second = o; third = s }
HasNumbers-entry PredicateSubjectObject t s p o = record { first = p; second = s; third = o }

pub entry_cmp_total : IsTotalOrder entry_cmp
entry_cmp_total =
    then_total (on_total (λ (e : Entry). e.first) nat_cmp_total)
    (then_total (on_total (λ (e : Entry). e.second) nat_cmp_total)
    (on_total (λ (e : Entry). e.third) nat_cmp_total))

abbrev Parts : Type 0
Parts = ℕ × (ℕ × ℕ)

abbrev parts_of : Entry → Parts
parts_of e = (e.first, (e.second, e.third))

abbrev entry_with : Parts → Entry
entry_with p = record { first = p.0; second = p.1.0; third = p.1.1 }

-- entries that compare as equal are one
pub entry_cmp_exact : CmpEqualImpliesEq entry_cmp
entry_cmp_exact d e tied =
    ap entry_with
    (exact_pairs nat_cmp _ exact_unsigned (exact_pairs nat_cmp nat_cmp exact_unsigned exact_unsigned)
    (parts_of d) (parts_of e) tied)

-- and so are triples
pub arranged_order : (a : Arrangement) → IsExactOrder (arranged_cmp a)
arranged_order a = record {
  total = on_total (entry_of a) entry_cmp_total;
  exact = λ t u tied.
      sym (triple_back a t)
      ∙ ap (triple_at a) (entry_cmp_exact (entry_of a t) (entry_of a u) tied)
      ∙ triple_back a u;
}
