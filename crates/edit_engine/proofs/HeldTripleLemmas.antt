-- Triples whose terms are all held: entering these adds none, and their numbers stay among more terms.
use Rattle.std.specs.Prelude.{◌≡◌, true, Contains, List, [], ◌∷◌, ◌++◌, length}
use Rattle.std.specs.List.{cons_option}
use Rattle.std.proofs.Common.{suc, refl, ap, ◌∙◌, subst, inl, inr}
use Rattle.shx_term.specs.declared.term.Term.{Term}
use Rattle.shx_term.specs.declared.triple.TermTriple.{TermTriple}
use Rattle.shx_term.specs.Pool.{is_held, with_terms}
use Rattle.shx_term.specs.TripleTerms.{numbered_all, terms_of}
use Rattle.shx_term.proofs.HeldLemmas.{all_held, held_stays}
use Rattle.shx_term.proofs.MemberLemmas.{Contains-cases, Contains-flat_map, Contains-from_flat_map}
use Rattle.shx_term.proofs.MemberLemmas.{Contains-head, Contains-tail, each_passes, none_in_empty}
use Rattle.shx_term.proofs.NumberedLemmas.{AreHeld, numbered-append, numbered-held}

-- the terms of each are held
pub record AreAllHeld (terms : List Term) (triples : List TermTriple) : Type 0 where
  pub each : (t : TermTriple) → Contains triples t → AreHeld terms t

AreAllHeld-tail : (terms : List Term) (t : TermTriple) (ts : List TermTriple) → AreAllHeld terms (t ∷ ts)
    → AreAllHeld terms ts
AreAllHeld-tail terms t ts all = record { each = λ v c. all.each v (Contains-tail t v ts c) }

-- of one triple
abbrev three : TermTriple → List Term
three t = t.s ∷ (t.p ∷ (t.o ∷ []))

is_one_of : (terms : List Term) (t : TermTriple) (x : Term) → AreHeld terms t → Contains (three t) x
    → is_held terms x ≡ true
is_one_of terms t x held c = elim (Contains-cases t.s x (t.p ∷ (t.o ∷ [])) c) [
  | inl e ↦ ap (is_held terms) e ∙ held.s
  | inr d ↦ elim (Contains-cases t.p x (t.o ∷ []) d) [
    | inl e ↦ ap (is_held terms) e ∙ held.p
    | inr f ↦ elim (Contains-cases t.o x [] f) [
      | inl e ↦ ap (is_held terms) e ∙ held.o
      | inr none ↦ absurd (none_in_empty x none)
    ]
  ]
]

AreHeld-three : (terms : List Term) (t : TermTriple)
    → ((x : Term) → Contains (three t) x → is_held terms x ≡ true) → AreHeld terms t
AreHeld-three terms t each = record {
  s = each t.s (Contains-head t.s (t.p ∷ (t.o ∷ [])));
  p = each t.p (Contains-tail t.s t.p (t.p ∷ (t.o ∷ [])) (Contains-head t.p (t.o ∷ [])));
  o = each t.o (Contains-tail t.s t.o (t.p ∷ (t.o ∷ []))
      (Contains-tail t.p t.o (t.o ∷ []) (Contains-head t.o [])));
}

-- ---- entering them

with_terms-held : (terms ts : List Term) → ((x : Term) → Contains ts x → is_held terms x ≡ true)
    → with_terms terms ts ≡ terms
with_terms-held terms [] each = refl
with_terms-held terms (t ∷ ts) each =
    rw (each t (Contains-head t ts)) (with_terms-held terms ts (λ x c. each x (Contains-tail t x ts c)))

-- terms that are held are not entered once more
pub with_terms-all : (terms : List Term) (triples : List TermTriple) → AreAllHeld terms triples
    → with_terms terms (terms_of triples) ≡ terms
with_terms-all terms triples all =
    with_terms-held terms (terms_of triples) (λ x c.
    let from = Contains-from_flat_map three triples x c in
    is_one_of terms from.0 x (all.each from.0 from.1) from.2)

-- those that were entered are held
pub AreAllHeld-entered : (terms : List Term) (triples : List TermTriple)
    → AreAllHeld (with_terms terms (terms_of triples)) triples
AreAllHeld-entered terms triples =
    let now = with_terms terms (terms_of triples) in
    record {
      each = λ t c. AreHeld-three now t (λ x d.
          each_passes (is_held now) (terms_of triples) (all_held terms (terms_of triples)) x
          (Contains-flat_map three triples t x c d));
    }

-- where none was entered all were held
pub AreAllHeld-before : (terms : List Term) (triples : List TermTriple)
    → with_terms terms (terms_of triples) ≡ terms → AreAllHeld terms triples
AreAllHeld-before terms triples e =
    subst (λ xs. AreAllHeld xs triples) e (AreAllHeld-entered terms triples)

-- ---- more terms

pub AreAllHeld-more : (terms more : List Term) (triples : List TermTriple) → AreAllHeld terms triples
    → AreAllHeld (terms ++ more) triples
AreAllHeld-more terms more triples all = record {
  each = λ t c.
      let held = all.each t c in
      record {
        s = held_stays terms more t.s held.s;
        p = held_stays terms more t.p held.p;
        o = held_stays terms more t.o held.o;
      };
}

pub numbered_all-more : (terms more : List Term) (triples : List TermTriple) → AreAllHeld terms triples
    → numbered_all (terms ++ more) triples ≡ numbered_all terms triples
numbered_all-more terms more [] all = refl
numbered_all-more terms more (t ∷ ts) all =
    let one = numbered-append terms more t (all.each t (Contains-head t ts)) in
    let rest = numbered_all-more terms more ts (AreAllHeld-tail terms t ts all) in
    λ i. cons_option (one i) (rest i)

-- each has its numbers
pub length-numbered_all : (terms : List Term) (triples : List TermTriple) → AreAllHeld terms triples
    → length (numbered_all terms triples) ≡ length triples
length-numbered_all terms [] all = refl
length-numbered_all terms (t ∷ ts) all =
    let one = numbered-held terms t (all.each t (Contains-head t ts)) in
    ap (λ o. length (cons_option o (numbered_all terms ts))) one.is
    ∙ ap suc (length-numbered_all terms ts (AreAllHeld-tail terms t ts all))
