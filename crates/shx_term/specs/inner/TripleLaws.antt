-- The laws of equality of triples.
use Rattle.std.specs.Prelude.{◌≡◌, true, ◌&&◌, ◌==◌}
use Rattle.std.specs.Cmp.{IsEquivalence, on_equiv, and_equiv, nat_eq_equiv, first_so, second_so}
use Rattle.std.proofs.lemmas.Bool.{eqb-true}
use Rattle.shx_term.specs.declared.triple.Triple.{Triple}
use Rattle.shx_term.specs.declared.triple.TermTriple.{TermTriple}
use Rattle.shx_term.specs.Triple.{same_triple}
use Rattle.shx_term.specs.TermOrder.{same_term}
use Rattle.shx_term.specs.TripleTerms.{same_term_triple}
use Rattle.shx_term.specs.inner.TermOrderLaws.{same_term_equiv, same_term_exact}

pub same_triple_equiv : IsEquivalence same_triple
same_triple_equiv =
    and_equiv (on_equiv (λ t. t.s) nat_eq_equiv)
    (and_equiv (on_equiv (λ t. t.p) nat_eq_equiv) (on_equiv (λ t. t.o) nat_eq_equiv))

pub triple_is : (t u : Triple) → t.s ≡ u.s → t.p ≡ u.p → t.o ≡ u.o → t ≡ u
triple_is t u s p o = λ i. record { s = s i; p = p i; o = o i }

pub same_triple_exact : (t u : Triple) → same_triple t u ≡ true → t ≡ u
same_triple_exact t u h =
    let rest = second_so (t.s == u.s) ((t.p == u.p) && (t.o == u.o)) h in
    triple_is t u
    (eqb-true t.s u.s (first_so (t.s == u.s) ((t.p == u.p) && (t.o == u.o)) h))
    (eqb-true t.p u.p (first_so (t.p == u.p) (t.o == u.o) rest))
    (eqb-true t.o u.o (second_so (t.p == u.p) (t.o == u.o) rest))

pub same_term_triple_equiv : IsEquivalence same_term_triple
same_term_triple_equiv =
    and_equiv (on_equiv (λ t. t.s) same_term_equiv)
    (and_equiv (on_equiv (λ t. t.p) same_term_equiv) (on_equiv (λ t. t.o) same_term_equiv))

pub same_term_triple_exact : (t u : TermTriple) → same_term_triple t u ≡ true → t ≡ u
same_term_triple_exact t u h =
    let others = same_term t.p u.p && same_term t.o u.o in
    let rest = second_so (same_term t.s u.s) others h in
    let s = same_term_exact t.s u.s (first_so (same_term t.s u.s) others h) in
    let p = same_term_exact t.p u.p (first_so (same_term t.p u.p) (same_term t.o u.o) rest) in
    let o = same_term_exact t.o u.o (second_so (same_term t.p u.p) (same_term t.o u.o) rest) in
    λ i. record { s = s i; p = p i; o = o i }
