-- Valid triples by their numbers, and views that stay valid as terms are entered and triples come and go.
use Rattle.std.specs.Prelude.{◌≡◌, ℕ, ◌<◌, List, [], ◌∷◌, ◌++◌, length, take, slice_get, All, Contains}
use Rattle.std.specs.Prelude.{Option, Some, None}
use Rattle.std.proofs.Common.{drop, refl, sym, ap, ◌∙◌, subst, inl, inr}
use Rattle.std.proofs.lemmas.List.{take-append-drop}
use Rattle.std.proofs.lemmas.List.Elements.{All-cons, All-head, All-nil, All-tail, All-take}
use Rattle.std.proofs.lemmas.Option.{slice_get_within}
use Rattle.shx_term.specs.declared.term.Term.{Term}
use Rattle.shx_term.specs.declared.term.Term.TheVariants.{Iri, Blank, Lit}
use Rattle.shx_term.specs.declared.triple.Triple.{Triple}
use Rattle.shx_term.specs.declared.triple.TermTriple.{TermTriple}
use Rattle.shx_term.specs.Members.{SameMembers}
use Rattle.shx_term.specs.Pool.{with_term}
use Rattle.shx_term.specs.TermOrder.{same_term}
use Rattle.shx_term.specs.inner.TermOrderLaws.{same_term_equiv, same_term_exact}
use Rattle.shx_term.specs.TripleTerms.{number_in, triple_of_numbers, numbered, numbered_all}
use Rattle.shx_term.specs.ValidTriples.{IsIri, IsNoLiteral, IsNotWide, IsValidTermTriple}
use Rattle.shx_term.proofs.HeldLemmas.{with_term_grows}
use Rattle.shx_term.proofs.IdOrderLemmas.{slice_get-append}
use Rattle.shx_term.proofs.MemberLemmas.{Contains-insert, each_of_All, All_of_each}
use Rattle.shx_term.proofs.PlaceLemmas.{slice_get-position}
use Rattle.graph_view.specs.Graph.{Graph, IsKnownTriple, AllKnown, HasAlso, IsWithout}
use Rattle.graph_view.specs.Patched.{patched}
use Rattle.graph_view.specs.Valid.{IsValidTriple, IsValidView}
use Rattle.graph_view.proofs.PatchedLemmas.{IsValidView-patched}

-- a triple has the numbers that it was made of
pub made_of : (s p o : Option ℕ) (t : Triple) → triple_of_numbers s p o ≡ Some t
    → (s ≡ Some t.s) × (p ≡ Some t.p) × (o ≡ Some t.o)
made_of (Some s) (Some p) (Some o) t e =
    let same : record { s = s; p = p; o = o } ≡ t = cc in
    (ap (λ u. Some u.s) same, ap (λ u. Some u.p) same, ap (λ u. Some u.o) same)
made_of (Some s) (Some p) None t e = absurd (cc)
made_of (Some s) None o t e = absurd (cc)
made_of None p o t e = absurd (cc)

-- a valid triple of terms that are held is valid by its numbers
pub IsValidTriple-numbered : (terms : List Term) (stated : TermTriple) (t : Triple)
    → numbered terms stated ≡ Some t → IsValidTermTriple stated → IsValidTriple terms t
IsValidTriple-numbered terms stated t e valid =
    let made = made_of (number_in terms stated.s) (number_in terms stated.p) (number_in terms stated.o) t e in
    record {
      stated = stated;
      s = slice_get-position terms stated.s t.s made.0;
      p = slice_get-position terms stated.p t.p made.1;
      o = slice_get-position terms stated.o t.o made.2;
      valid = valid;
    }

-- ... and so are all of them
pub valid_numbered : (terms : List Term) (ts : List TermTriple) → All IsValidTermTriple ts
    → All (IsValidTriple terms) (numbered_all terms ts)
valid_numbered terms [] all = All-nil (IsValidTriple terms)
valid_numbered terms (t ∷ ts) all =
    let rest = valid_numbered terms ts (All-tail IsValidTermTriple t ts all) in
    let fit = All-head IsValidTermTriple t ts all in
    elim (numbered terms t) as
    (λ o. numbered terms t ≡ o → All (IsValidTriple terms) (numbered_all terms (t ∷ ts))) [
      | None ↦ λ e. rw e rest
      | Some u ↦ λ e. rw e (All-cons (IsValidTriple terms) u (numbered_all terms ts)
          (IsValidTriple-numbered terms t u e fit) rest)
    ] refl

-- ---- subjects and predicates are no wide literals

pub narrow_subject : (t : Term) → IsNoLiteral t → IsNotWide t
narrow_subject (Iri iri) is = tt
narrow_subject (Blank blank) is = tt
narrow_subject (Lit literal) is = absurd is

pub narrow_predicate : (t : Term) → IsIri t → IsNotWide t
narrow_predicate (Iri iri) is = tt
narrow_predicate (Blank blank) is = absurd is
narrow_predicate (Lit literal) is = absurd is

-- a triple stays valid where more terms are entered behind its own
pub IsValidTriple-append : (terms more : List Term) (t : Triple) → IsKnownTriple terms t
    → IsValidTriple terms t → IsValidTriple (terms ++ more) t
IsValidTriple-append terms more t known valid = record {
  stated = valid.stated;
  s = slice_get-append terms more t.s known.s ∙ valid.s;
  p = slice_get-append terms more t.p known.p ∙ valid.p;
  o = slice_get-append terms more t.o known.o ∙ valid.o;
  valid = valid.valid;
}

-- its numbers have terms
pub IsKnownTriple-valid : (terms : List Term) (t : Triple) → IsValidTriple terms t → IsKnownTriple terms t
IsKnownTriple-valid terms t valid = record {
  s = slice_get_within terms t.s valid.stated.s valid.s;
  p = slice_get_within terms t.p valid.stated.p valid.p;
  o = slice_get_within terms t.o valid.stated.o valid.o;
}

pub AllKnown-valid : (g : Graph) → IsValidView g → AllKnown g
AllKnown-valid g valid = All_of_each (IsKnownTriple g.terms) g.triples (λ t c.
    IsKnownTriple-valid g.terms t (each_of_All (IsValidTriple g.terms) g.triples valid.triples t c))

-- a triple stays valid where the terms behind its own are cut off
slice_get-take : (terms : List Term) (n id : ℕ) → id < length (take n terms)
    → slice_get (take n terms) id ≡ slice_get terms id
slice_get-take terms n id inside =
    sym (slice_get-append (take n terms) (drop n terms) id inside)
    ∙ ap (λ ts. slice_get ts id) (take-append-drop n terms)

IsValidTriple-take : (terms : List Term) (n : ℕ) (t : Triple) → IsKnownTriple (take n terms) t
    → IsValidTriple terms t → IsValidTriple (take n terms) t
IsValidTriple-take terms n t known valid = record {
  stated = valid.stated;
  s = slice_get-take terms n t.s known.s ∙ valid.s;
  p = slice_get-take terms n t.p known.p ∙ valid.p;
  o = slice_get-take terms n t.o known.o ∙ valid.o;
  valid = valid.valid;
}

-- entering a term that is no wide literal leaves a view valid
pub IsValidView-entered : (g h : Graph) (t : Term) → IsValidView g → IsNotWide t
    → h.terms ≡ with_term g.terms t → h.triples ≡ g.triples → IsValidView h
IsValidView-entered g h t valid narrow terms triples =
    let known = AllKnown-valid g valid in
    let grown = with_term_grows g.terms t in
    record {
      triples = All_of_each (IsValidTriple h.terms) h.triples (λ u c.
          let held = subst (λ us. Contains us u) triples c in
          let here = each_of_All (IsKnownTriple g.terms) g.triples known u held in
          let fit = each_of_All (IsValidTriple g.terms) g.triples valid.triples u held in
          subst (λ ts. IsValidTriple ts u) (sym (terms ∙ grown.1))
          (IsValidTriple-append g.terms grown.0 u here fit));
      terms = All_of_each IsNotWide h.terms (λ u c.
          let entered = Contains-insert same_term same_term_equiv same_term_exact g.terms t u in
          elim (entered.0 (subst (λ ts. Contains ts u) terms c)) [
            | inl held ↦ each_of_All IsNotWide g.terms valid.terms u held
            | inr e ↦ subst IsNotWide (sym e) narrow
          ]);
    }

-- inserting a valid triple leaves a view valid
pub IsValidView-inserted : (g h : Graph) (t : Triple) → IsValidView g → IsValidTriple g.terms t
    → h.terms ≡ g.terms → HasAlso g.triples h.triples t → IsValidView h
IsValidView-inserted g h t valid fit terms also = record {
  triples = All_of_each (IsValidTriple h.terms) h.triples (λ u c.
      subst (λ ts. IsValidTriple ts u) (sym terms)
      (elim ((also.each u).0 c) [
        | inl held ↦ each_of_All (IsValidTriple g.terms) g.triples valid.triples u held
        | inr e ↦ subst (IsValidTriple g.terms) (sym e) fit
      ]));
  terms = subst (All IsNotWide) (sym terms) valid.terms;
}

-- so does removing one
pub IsValidView-removed : (g h : Graph) (t : Triple) → IsValidView g → h.terms ≡ g.terms
    → IsWithout g.triples h.triples t → IsValidView h
IsValidView-removed g h t valid terms without = record {
  triples = All_of_each (IsValidTriple h.terms) h.triples (λ u c.
      let held = ((without.each u).0 c).0 in
      subst (λ ts. IsValidTriple ts u) (sym terms)
      (each_of_All (IsValidTriple g.terms) g.triples valid.triples u held));
  terms = subst (All IsNotWide) (sym terms) valid.terms;
}

-- so does exchanging triples for valid ones
pub IsValidView-exchanged : (g h : Graph) (added removed : List Triple) → IsValidView g
    → All (IsValidTriple g.terms) added → h.terms ≡ g.terms
    → SameMembers h.triples (patched g added removed).triples → IsValidView h
IsValidView-exchanged g h added removed valid fit terms same =
    let changed = IsValidView-patched g added removed valid fit in
    record {
      triples = subst (λ ts. All (IsValidTriple ts) h.triples) (sym terms)
          (All_of_each (IsValidTriple g.terms) h.triples (λ t c.
          each_of_All (IsValidTriple g.terms) (patched g added removed).triples changed.triples t
          ((same.each t).0 c)));
      terms = subst (All IsNotWide) (sym terms) valid.terms;
    }

-- and cutting terms off that no triple has
pub IsValidView-cut : (g h : Graph) (n : ℕ) → IsValidView g → h.terms ≡ take n g.terms
    → h.triples ≡ g.triples → All (IsKnownTriple h.terms) h.triples → IsValidView h
IsValidView-cut g h n valid terms triples known = record {
  triples = All_of_each (IsValidTriple h.terms) h.triples (λ t c.
      let here = each_of_All (IsKnownTriple h.terms) h.triples known t c in
      let held = subst (λ us. Contains us t) triples c in
      let fit = each_of_All (IsValidTriple g.terms) g.triples valid.triples t held in
      subst (λ ts. IsValidTriple ts t) (sym terms)
      (IsValidTriple-take g.terms n t (subst (λ ts. IsKnownTriple ts t) terms here) fit));
  terms = subst (All IsNotWide) (sym terms) (All-take IsNotWide n g.terms valid.terms);
}
