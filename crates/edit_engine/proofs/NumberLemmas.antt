-- The numbers of triples of terms: where they lie, of which triple they are, and which they were among fewer
-- terms.
use Rattle.std.specs.Prelude.{◌≡◌, ℕ, ◌<◌, true, List, ◌++◌, length, Some}
use Rattle.std.proofs.Common.{sym, ◌∙◌, refl, subst}
use Rattle.std.proofs.lemmas.List.Folds.{list_any_at}
use Rattle.std.proofs.lemmas.List.Quantifiers.{position-Some}
use Rattle.std.proofs.lemmas.List.{get_or_append_left}
use Rattle.shx_term.specs.declared.term.Term.{Term}
use Rattle.shx_term.specs.declared.triple.Triple.{Triple}
use Rattle.shx_term.specs.declared.triple.TermTriple.{TermTriple}
use Rattle.shx_term.specs.Pool.{is_held}
use Rattle.shx_term.specs.TermOrder.{same_term}
use Rattle.shx_term.specs.TripleTerms.{number_in, numbered}
use Rattle.shx_term.proofs.HeldLemmas.{number_stays}
use Rattle.shx_term.proofs.NumberedLemmas.{AreHeld, numbered-append}
use Rattle.shx_term.proofs.PlaceLemmas.{slice_get-position}
use Rattle.graph_view.specs.Graph.{IsKnownTriple}
use Rattle.graph_view.proofs.ValidLemmas.{made_of}

-- each of its terms has its number
pub record AreNumbersOf (terms : List Term) (t : TermTriple) (u : Triple) : Type 0 where
  pub s : number_in terms t.s ≡ Some u.s
  pub p : number_in terms t.p ≡ Some u.p
  pub o : number_in terms t.o ≡ Some u.o

pub numbers_from : (terms : List Term) (t : TermTriple) (u : Triple) → numbered terms t ≡ Some u
    → AreNumbersOf terms t u
numbers_from terms t u e =
    let made = made_of (number_in terms t.s) (number_in terms t.p) (number_in terms t.o) u e in
    record { s = made.0; p = made.1; o = made.2 }

pub numbered_by : (terms : List Term) (t : TermTriple) (u : Triple) → AreNumbersOf terms t u
    → numbered terms t ≡ Some u
numbered_by terms t u of = rw (of.s, of.p, of.o) refl

number_inside : (terms : List Term) (t : Term) (id : ℕ) → number_in terms t ≡ Some id → id < length terms
number_inside terms t id e = (position-Some (same_term t) terms id t e).0

-- they are numbers of terms
pub IsKnownTriple-numbers : (terms : List Term) (t : TermTriple) (u : Triple) → AreNumbersOf terms t u
    → IsKnownTriple terms u
IsKnownTriple-numbers terms t u of = record {
  s = number_inside terms t.s u.s of.s;
  p = number_inside terms t.p u.p of.p;
  o = number_inside terms t.o u.o of.o;
}

-- terms with one number are one
one_term : (terms : List Term) (a b : Term) (id : ℕ) → number_in terms a ≡ Some id
    → number_in terms b ≡ Some id → a ≡ b
one_term terms a b id e f =
    let here : Some a ≡ Some b = sym (slice_get-position terms a id e) ∙ slice_get-position terms b id f in
    cc

-- and so are triples with the same numbers
pub one_triple : (terms : List Term) (t v : TermTriple) (u : Triple) → numbered terms t ≡ Some u
    → numbered terms v ≡ Some u → t ≡ v
one_triple terms t v u e f =
    let of = numbers_from terms t u e in
    let too = numbers_from terms v u f in
    let s = one_term terms t.s v.s u.s of.s too.s in
    let p = one_term terms t.p v.p u.p of.p too.p in
    let o = one_term terms t.o v.o u.o of.o too.o in
    λ i. record { s = s i; p = p i; o = o i }

-- a number of a term that lies before these more is the term's among those before
number_before : (terms more : List Term) (t : Term) (id : ℕ)
    → number_in (terms ++ more) t ≡ Some id → id < length terms → number_in terms t ≡ Some id
number_before terms more t id e below =
    let found = position-Some (same_term t) (terms ++ more) id t e in
    let held : is_held terms t ≡ true =
    list_any_at (same_term t) terms id t below
    (subst (λ u. same_term t u ≡ true) (get_or_append_left terms more t id below) found.1) in
    sym (number_stays terms more t held) ∙ e

pub numbered_before : (terms more : List Term) (t : TermTriple) (u : Triple) → IsKnownTriple terms u
    → numbered (terms ++ more) t ≡ Some u → numbered terms t ≡ Some u
numbered_before terms more t u known e =
    let of = numbers_from (terms ++ more) t u e in
    numbered_by terms t u (record {
      s = number_before terms more t.s u.s of.s known.s;
      p = number_before terms more t.p u.p of.p known.p;
      o = number_before terms more t.o u.o of.o known.o;
    })

held_at : (terms : List Term) (t : Term) (id : ℕ) → number_in terms t ≡ Some id → is_held terms t ≡ true
held_at terms t id e =
    let found = position-Some (same_term t) terms id t e in
    list_any_at (same_term t) terms id t found.0 found.1

-- a triple with numbers has its terms there
pub AreHeld-numbered : (terms : List Term) (t : TermTriple) (u : Triple) → numbered terms t ≡ Some u
    → AreHeld terms t
AreHeld-numbered terms t u e =
    let of = numbers_from terms t u e in
    record {
      s = held_at terms t.s u.s of.s;
      p = held_at terms t.p u.p of.p;
      o = held_at terms t.o u.o of.o;
    }

-- numbers stay where there are more terms
pub numbered_after : (terms more : List Term) (t : TermTriple) (u : Triple) → numbered terms t ≡ Some u
    → numbered (terms ++ more) t ≡ Some u
numbered_after terms more t u e = numbered-append terms more t (AreHeld-numbered terms t u e) ∙ e
