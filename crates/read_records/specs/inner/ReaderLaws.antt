-- The laws of equality of readers, and of their order.
use Rattle.std.specs.Prelude.{◌≡◌, true, ◌==◌}
use Rattle.std.specs.Cmp.{IsEquivalence, on_equiv, and_equiv, nat_eq_equiv, first_so, second_so}
use Rattle.std.specs.Cmp.{IsTotalOrder, on_total, then_total, nat_cmp_total, unsigned_ties, both_tied}
use Rattle.std.specs.Ordering.{nat_cmp, eq_by_cmp}
use Rattle.std.proofs.Common.{ap}
use Rattle.std.proofs.lemmas.Bool.{eqb-true}
use Rattle.read_records.specs.declared.reader.Reader.{Reader}
use Rattle.read_records.specs.declared.reader.Reader.TheVariants.{OfTarget, OfPair}
use Rattle.read_records.specs.Reader.{reader_kind, reader_shape, reader_node, same_reader, reader_cmp}

pub same_reader_equiv : IsEquivalence same_reader
same_reader_equiv =
    and_equiv (on_equiv reader_kind nat_eq_equiv)
    (and_equiv (on_equiv reader_shape nat_eq_equiv) (on_equiv reader_node nat_eq_equiv))

same_parts : (a b : Reader) → reader_kind a ≡ reader_kind b → reader_shape a ≡ reader_shape b
    → reader_node a ≡ reader_node b → a ≡ b
same_parts (OfTarget s) (OfTarget s') k f e = ap OfTarget f
same_parts (OfTarget s) (OfPair p) k f e = cc
same_parts (OfPair p) (OfTarget s) k f e = cc
same_parts (OfPair p) (OfPair q) k f e = λ i. OfPair (record { shape = f i; node = e i })

pub same_reader_exact : (a b : Reader) → same_reader a b ≡ true → a ≡ b
same_reader_exact a b h =
    let rest = second_so (reader_kind a == reader_kind b) _ h in
    same_parts a b
    (eqb-true (reader_kind a) (reader_kind b) (first_so _ _ h))
    (eqb-true (reader_shape a) (reader_shape b) (first_so _ _ rest))
    (eqb-true (reader_node a) (reader_node b) (second_so (reader_shape a == reader_shape b) _ rest))

pub reader_cmp_total : IsTotalOrder reader_cmp
reader_cmp_total =
    then_total (on_total reader_kind nat_cmp_total)
    (then_total (on_total reader_shape nat_cmp_total) (on_total reader_node nat_cmp_total))

-- readers that compare as equal are one
pub reader_cmp_ties : (a b : Reader) → same_reader a b ≡ eq_by_cmp reader_cmp a b
reader_cmp_ties a b =
    both_tied (reader_kind a == reader_kind b) _ (nat_cmp (reader_kind a) (reader_kind b)) _
    (unsigned_ties (reader_kind a) (reader_kind b))
    (both_tied (reader_shape a == reader_shape b) (reader_node a == reader_node b)
    (nat_cmp (reader_shape a) (reader_shape b)) (nat_cmp (reader_node a) (reader_node b))
    (unsigned_ties (reader_shape a) (reader_shape b)) (unsigned_ties (reader_node a) (reader_node b)))
