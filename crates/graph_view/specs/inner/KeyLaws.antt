-- The laws of equality of keys, and of their order.
use Rattle.std.specs.Prelude.{◌≡◌, true, ◌==◌}
use Rattle.std.specs.Cmp.{IsEquivalence, on_equiv, and_equiv, nat_eq_equiv, first_so, second_so}
use Rattle.std.specs.Cmp.{IsTotalOrder, on_total, then_total, nat_cmp_total, unsigned_ties, both_tied}
use Rattle.std.specs.Ordering.{nat_cmp, eq_by_cmp}
use Rattle.std.proofs.Common.{ap}
use Rattle.std.proofs.lemmas.Bool.{eqb-true}
use Rattle.graph_view.specs.declared.key.Key.{Key}
use Rattle.graph_view.specs.declared.key.Key.TheVariants.{Out, In, Subject, Predicate, Answer}
use Rattle.graph_view.specs.Key.{key_kind, key_first, key_second, same_key, key_cmp}

pub same_key_equiv : IsEquivalence same_key
same_key_equiv =
    and_equiv (on_equiv key_kind nat_eq_equiv)
    (and_equiv (on_equiv key_first nat_eq_equiv) (on_equiv key_second nat_eq_equiv))

same_parts : (a b : Key) → key_kind a ≡ key_kind b → key_first a ≡ key_first b → key_second a ≡ key_second b
    → a ≡ b
same_parts (Out s p) (Out s' p') k f e = λ i. Out (f i) (e i)
same_parts (Out s p) (In p' o') k f e = cc
same_parts (Out s p) (Subject s') k f e = cc
same_parts (Out s p) (Predicate p') k f e = cc
same_parts (Out s p) (Answer s' n') k f e = cc
same_parts (In p o) (Out s' p') k f e = cc
same_parts (In p o) (In p' o') k f e = λ i. In (f i) (e i)
same_parts (In p o) (Subject s') k f e = cc
same_parts (In p o) (Predicate p') k f e = cc
same_parts (In p o) (Answer s' n') k f e = cc
same_parts (Subject s) (Out s' p') k f e = cc
same_parts (Subject s) (In p' o') k f e = cc
same_parts (Subject s) (Subject s') k f e = ap Subject f
same_parts (Subject s) (Predicate p') k f e = cc
same_parts (Subject s) (Answer s' n') k f e = cc
same_parts (Predicate p) (Out s' p') k f e = cc
same_parts (Predicate p) (In p' o') k f e = cc
same_parts (Predicate p) (Subject s') k f e = cc
same_parts (Predicate p) (Predicate p') k f e = ap Predicate f
same_parts (Predicate p) (Answer s' n') k f e = cc
same_parts (Answer s n) (Out s' p') k f e = cc
same_parts (Answer s n) (In p' o') k f e = cc
same_parts (Answer s n) (Subject s') k f e = cc
same_parts (Answer s n) (Predicate p') k f e = cc
same_parts (Answer s n) (Answer s' n') k f e = λ i. Answer (f i) (e i)

pub same_key_exact : (a b : Key) → same_key a b ≡ true → a ≡ b
same_key_exact a b h =
    let rest = second_so (key_kind a == key_kind b) _ h in
    same_parts a b
    (eqb-true (key_kind a) (key_kind b) (first_so _ _ h))
    (eqb-true (key_first a) (key_first b) (first_so _ _ rest))
    (eqb-true (key_second a) (key_second b) (second_so (key_first a == key_first b) _ rest))

pub key_cmp_total : IsTotalOrder key_cmp
key_cmp_total =
    then_total (on_total key_kind nat_cmp_total)
    (then_total (on_total key_first nat_cmp_total) (on_total key_second nat_cmp_total))

-- keys that compare as equal are one
pub key_cmp_ties : (a b : Key) → same_key a b ≡ eq_by_cmp key_cmp a b
key_cmp_ties a b =
    both_tied (key_kind a == key_kind b) _ (nat_cmp (key_kind a) (key_kind b)) _
    (unsigned_ties (key_kind a) (key_kind b))
    (both_tied (key_first a == key_first b) (key_second a == key_second b)
    (nat_cmp (key_first a) (key_first b)) (nat_cmp (key_second a) (key_second b))
    (unsigned_ties (key_first a) (key_first b)) (unsigned_ties (key_second a) (key_second b)))
