-- Lists of numbers that ascend, and of nodes in term order: they are distinct, and hold the same numbers.
use Rattle.std.specs.Prelude.{◌≡◌, ℕ, true, nat_eq, List, Contains, IsPermutation}
use Rattle.std.specs.Cmp.{eq_by_cmp_equiv, both_ways, nat_eq_equiv}
use Rattle.std.specs.List.{IsDistinct, dedup}
use Rattle.std.specs.List.Sorted.{IsSorted, IsStrictlySortedBy}
use Rattle.std.specs.Ordering.{eq_by_cmp, nat_cmp}
use Rattle.std.specs.declared.cmp.Ordering.{Ordering}
use Rattle.std.proofs.Common.{refl, sym, subst}
use Rattle.std.proofs.lemmas.Bool.{eqb-true}
use Rattle.std.proofs.lemmas.Map.Keys.{IsDistinct-from_sorted}
use Rattle.std.proofs.lemmas.Map.Views.{exact_unsigned_eq, tells_apart}
use Rattle.std.proofs.lemmas.Cmp.{nat_cmp_total}
use Rattle.std.proofs.lemmas.Map.Lookups.{exact_unsigned}
use Rattle.shx_term.specs.declared.term.Term.{Term}
use Rattle.shx_term.specs.IdOrder.{id_cmp, in_term_order}
use Rattle.shx_term.specs.InOrder.{IsExactOrder, Lists}
use Rattle.shx_term.specs.Members.{SameMembers}
use Rattle.shx_term.proofs.IdOrderLemmas.{id_order, in_term_order_lists}
use Rattle.shx_term.proofs.InOrderLemmas.{in_order_lists}
use Rattle.shx_term.proofs.SortLemmas.{dedup_in_order}

-- numbers in an order are distinct
IsDistinct-sorted : (cmp : ℕ → ℕ → Ordering) → IsExactOrder cmp → (ids : List ℕ)
    → IsStrictlySortedBy cmp ids → IsDistinct nat_eq ids
IsDistinct-sorted cmp order ids sorted =
    let tie = eq_by_cmp cmp in
    let laws = eq_by_cmp_equiv order.total in
    let same : tie ≡ nat_eq = λ i a b.
    both_ways (tie a b) (nat_eq a b)
    (λ h. subst (λ c. nat_eq a c ≡ true) (tells_apart order.exact a b h) (nat_eq_equiv.refl a))
    (λ h. subst (λ c. tie a c ≡ true) (exact_unsigned_eq a b h) (laws.refl a)) i in
    subst (λ test. IsDistinct test ids) same (IsDistinct-from_sorted cmp ids sorted)

pub IsDistinct-in_term_order : (terms : List Term) (ids : List ℕ)
    → IsDistinct nat_eq (in_term_order terms ids)
IsDistinct-in_term_order terms ids =
    IsDistinct-sorted (id_cmp terms) (id_order terms) (in_term_order terms ids)
    (in_term_order_lists terms ids).sorted

pub nat_order : IsExactOrder nat_cmp
nat_order = record { total = nat_cmp_total; exact = exact_unsigned }

pub IsDistinct-ascending : (ids : List ℕ) → IsStrictlySortedBy nat_cmp ids → IsDistinct nat_eq ids
IsDistinct-ascending ids sorted = IsDistinct-sorted nat_cmp nat_order ids sorted

-- numbers that are sorted, each kept once
pub Lists-ascending : (found sorted ids : List ℕ) → found ≡ ids → IsPermutation found sorted
    → IsSorted nat_cmp sorted → Lists nat_cmp (Contains ids) (dedup nat_eq sorted)
Lists-ascending found sorted ids is permuted ascends =
    subst (λ xs. Lists nat_cmp (Contains xs) (dedup nat_eq sorted)) is
    (subst (Lists nat_cmp (Contains found))
    (sym (dedup_in_order nat_cmp nat_order nat_eq nat_eq_equiv eqb-true found sorted permuted ascends))
    (in_order_lists nat_cmp nat_order found))

-- and are those that are listed in term order
pub Lists-by_number : (terms : List Term) (found sorted ids : List ℕ) → SameMembers found ids
    → IsPermutation found sorted → IsSorted nat_cmp sorted
    → Lists nat_cmp (Contains (in_term_order terms ids)) (dedup nat_eq sorted)
Lists-by_number terms found sorted ids same permuted ascends =
    let lists = Lists-ascending found sorted found refl permuted ascends in
    record {
      sorted = lists.sorted;
      each = λ n.
          let in_terms = (in_term_order_lists terms ids).each n in (
            λ c. in_terms.1 ((same.each n).0 ((lists.each n).0 c)),
            λ c. (lists.each n).1 ((same.each n).1 (in_terms.0 c)),
          );
    }
