-- Triples whose terms are held have numbers, which stay where more terms are entered.
use Rattle.std.specs.Prelude.{◌≡◌, ℕ, ◌<◌, true, List, [], ◌∷◌, ◌++◌, length, Some}
use Rattle.std.proofs.Common.{refl}
use Rattle.shx_term.specs.declared.term.Term.{Term}
use Rattle.shx_term.specs.declared.triple.Triple.{Triple}
use Rattle.shx_term.specs.declared.triple.TermTriple.{TermTriple}
use Rattle.shx_term.specs.Pool.{is_held, with_term}
use Rattle.shx_term.specs.TripleTerms.{number_in, numbered}
use Rattle.shx_term.proofs.HeldLemmas.{number_stays, number_in-known, number_from_place}

-- the numbers of a triple of terms, each with a term
pub record HasNumbers (terms : List Term) (t : TermTriple) : Type 0 where
  pub triple : Triple
  pub is : numbered terms t ≡ Some triple
  pub s : triple.s < length terms
  pub p : triple.p < length terms
  pub o : triple.o < length terms

pub record AreHeld (terms : List Term) (t : TermTriple) : Type 0 where
  pub s : is_held terms t.s ≡ true
  pub p : is_held terms t.p ≡ true
  pub o : is_held terms t.o ≡ true

pub numbered-held : (terms : List Term) (t : TermTriple) → AreHeld terms t → HasNumbers terms t
numbered-held terms t held =
    let s = number_in-known terms t.s held.s in
    let p = number_in-known terms t.p held.p in
    let o = number_in-known terms t.o held.o in
    record {
      triple = record { s = s.0; p = p.0; o = o.0 };
      is = rw (s.2, p.2, o.2) refl;
      s = s.1;
      p = p.1;
      o = o.1;
    }

-- a triple whose terms are held keeps its numbers
pub numbered-append : (terms more : List Term) (t : TermTriple)
    → AreHeld terms t → numbered (terms ++ more) t ≡ numbered terms t
numbered-append terms more t held =
    let s = number_stays terms more t.s held.s in
    let p = number_stays terms more t.p held.p in
    let o = number_stays terms more t.o held.o in
    rw (s, p, o) refl

-- the triple over the numbers that its terms have when they are entered in turn
pub numbered-in_turn : (one two three : List Term) (t : TermTriple) (s p o : ℕ)
    → two ≡ with_term one t.p → three ≡ with_term two t.o
    → number_in one t.s ≡ Some s → number_in two t.p ≡ Some p → number_in three t.o ≡ Some o
    → numbered three t ≡ Some (record { s = s; p = p; o = o })
numbered-in_turn one two three t s p o second third first_id second_id third_id =
    let first : number_in three t.s ≡ Some s =
    rw (third, second) (number_from_place one (t.p ∷ (t.o ∷ [])) t.s s first_id) in
    let next : number_in three t.p ≡ Some p = rw third (number_from_place two (t.o ∷ []) t.p p second_id) in
    rw (first, next, third_id) refl
