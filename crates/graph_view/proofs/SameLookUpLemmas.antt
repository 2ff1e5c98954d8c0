-- Look-ups in graphs that agree on the key give the same, where the numbers of the first graph have terms.
use Rattle.std.specs.Prelude.{◌≡◌, ℕ, ◌<◌, List, ◌++◌, map, length, Contains}
use Rattle.std.proofs.Common.{sym, ap, ◌∙◌, subst, refl}
use Rattle.shx_term.specs.declared.term.Term.{Term}
use Rattle.shx_term.specs.declared.triple.Triple.{Triple}
use Rattle.shx_term.specs.IdOrder.{in_term_order}
use Rattle.shx_term.specs.TripleOrder.{triple_cmp, in_triple_order}
use Rattle.shx_term.proofs.IdOrderLemmas.{in_term_order-append, id_cmp-append}
use Rattle.shx_term.proofs.InOrderLemmas.{in_order_alike}
use Rattle.shx_term.proofs.MemberLemmas.{Contains-from_map, each_of_All}
use Rattle.shx_term.proofs.TripleOrderLemmas.{triple_order}
use Rattle.graph_view.specs.declared.key.Key.{Key}
use Rattle.graph_view.specs.declared.key.Key.TheVariants.{Out, In, Subject, Predicate}
use Rattle.graph_view.specs.Agree.{Agree}
use Rattle.graph_view.specs.Graph.{Graph, IsKnownTriple, AllKnown}
use Rattle.graph_view.specs.Graph.{objects_of, subjects_of, triples_of, triples_with}
use Rattle.graph_view.specs.Key.{look}
use Rattle.graph_view.proofs.KeyLemmas.{Contains-look}
use Rattle.graph_view.proofs.SameGraphLemmas.{numbers_same, triples_same}

-- triples whose numbers have terms stay in the same order where more terms are entered behind these
pub in_triple_order-append : (terms more : List Term) (triples : List Triple)
    → ((t : Triple) → Contains triples t → IsKnownTriple terms t)
    → in_triple_order terms triples ≡ in_triple_order (terms ++ more) triples
in_triple_order-append terms more triples known =
    in_order_alike (triple_cmp terms) (triple_cmp (terms ++ more))
    (triple_order terms) (triple_order (terms ++ more)) triples (λ t u c d.
    let a = known t c in
    let b = known u d in
    let s = id_cmp-append terms more t.s u.s a.s b.s in
    let p = id_cmp-append terms more t.p u.p a.p b.p in
    let o = id_cmp-append terms more t.o u.o a.o b.o in
    rw (s, p, o) refl)

module _ {K : Key → Type 0} (g h : Graph) (known : AllKnown g) (agree : Agree g h K) (key : Key) (k : K key)
  where
    -- what h finds has terms in g
    known_there : (t : Triple) → Contains (look h.triples key) t → IsKnownTriple g.terms t
    known_there t c =
        let found = ((agree.triples.each key k).each t).1 c in
        each_of_All (IsKnownTriple g.terms) g.triples known t ((Contains-look g.triples key t).0 found).0

    numbers_agree : (f : Triple → ℕ) → ((t : Triple) → IsKnownTriple g.terms t → f t < length g.terms)
        → in_term_order g.terms (map f (look g.triples key))
        ≡ in_term_order h.terms (map f (look h.triples key))
    numbers_agree f within =
        let there = look h.triples key in
        numbers_same g.terms (look g.triples key) there (agree.triples.each key k) f
        ∙ in_term_order-append g.terms agree.more (map f there) (λ y c.
        let found = Contains-from_map f there y c in
        subst (λ z. z < length g.terms) (sym found.2) (within found.0 (known_there found.0 found.1)))
        ∙ ap (λ terms. in_term_order terms (map f there)) (sym agree.terms)

    triples_agree :
        in_triple_order g.terms (look g.triples key) ≡ in_triple_order h.terms (look h.triples key)
    triples_agree =
        triples_same g.terms (look g.triples key) (look h.triples key) (agree.triples.each key k)
        ∙ in_triple_order-append g.terms agree.more (look h.triples key) known_there
        ∙ ap (λ terms. in_triple_order terms (look h.triples key)) (sym agree.terms)

module _ {K : Key → Type 0} (g h : Graph) (known : AllKnown g) (agree : Agree g h K) where
  pub objects_of-agree : (s p : ℕ) → K (Out s p) → objects_of g s p ≡ objects_of h s p
  objects_of-agree s p k = numbers_agree g h known agree (Out s p) k (λ t. t.o) (λ t u. u.o)

  pub subjects_of-agree : (p o : ℕ) → K (In p o) → subjects_of g p o ≡ subjects_of h p o
  subjects_of-agree p o k = numbers_agree g h known agree (In p o) k (λ t. t.s) (λ t u. u.s)

  pub triples_of-agree : (s : ℕ) → K (Subject s) → triples_of g s ≡ triples_of h s
  triples_of-agree s k = triples_agree g h known agree (Subject s) k

  pub triples_with-agree : (p : ℕ) → K (Predicate p) → triples_with g p ≡ triples_with h p
  triples_with-agree p k = triples_agree g h known agree (Predicate p) k
