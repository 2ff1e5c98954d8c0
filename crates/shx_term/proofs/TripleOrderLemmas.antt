-- The order of triples is total and exact.
use Rattle.std.specs.Prelude.{ℕ, List}
use Rattle.std.specs.Cmp.{IsTotalOrder, on_total, then_total}
use Rattle.std.proofs.Common.{ap}
use Rattle.std.proofs.lemmas.Map.Lookups.{CmpEqualImpliesEq, exact_pairs}
use Rattle.shx_term.specs.declared.term.Term.{Term}
use Rattle.shx_term.specs.declared.triple.Triple.{Triple}
use Rattle.shx_term.specs.IdOrder.{id_cmp}
use Rattle.shx_term.proofs.IdOrderLemmas.{id_cmp_total, id_cmp_exact}
use Rattle.shx_term.specs.InOrder.{IsExactOrder}
use Rattle.shx_term.specs.inner.TripleLaws.{triple_is}
use Rattle.shx_term.proofs.InOrderLemmas.{in_order_lists}
use Rattle.shx_term.specs.TripleOrder.{triple_cmp, in_triple_order, ListsInTripleOrder}

pub triple_cmp_total : (terms : List Term) → IsTotalOrder (triple_cmp terms)
triple_cmp_total terms =
    then_total (on_total (λ (t : Triple). t.s) (id_cmp_total terms))
    (then_total (on_total (λ (t : Triple). t.p) (id_cmp_total terms))
    (on_total (λ (t : Triple). t.o) (id_cmp_total terms)))

abbrev Parts : Type 0
Parts = ℕ × (ℕ × ℕ)

abbrev parts_of : Triple → Parts
parts_of t = (t.s, (t.p, t.o))

-- triples that compare as equal are one
pub triple_cmp_exact : (terms : List Term) → CmpEqualImpliesEq (triple_cmp terms)
triple_cmp_exact terms t u e =
    let exact = id_cmp_exact terms in
    let same =
    exact_pairs (id_cmp terms) _ exact (exact_pairs (id_cmp terms) (id_cmp terms) exact exact)
    (parts_of t) (parts_of u) e in
    triple_is t u (ap (λ (p : Parts). p.0) same) (ap (λ (p : Parts). p.1.0) same)
    (ap (λ (p : Parts). p.1.1) same)

pub triple_order : (terms : List Term) → IsExactOrder (triple_cmp terms)
triple_order terms = record { total = triple_cmp_total terms; exact = triple_cmp_exact terms }

pub in_triple_order_lists : (terms : List Term) (ts : List Triple)
    → ListsInTripleOrder terms ts (in_triple_order terms ts)
in_triple_order_lists terms = in_order_lists (triple_cmp terms) (triple_order terms)
