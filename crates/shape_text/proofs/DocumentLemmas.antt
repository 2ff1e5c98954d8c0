-- What may be asked of what a text states: it is a valid view.
use Rattle.std.proofs.Common.{◌≡◌, Bool, true, false, List, [], ◌∷◌, ◌++◌, if◌then◌else◌}
use Rattle.std.proofs.Common.{refl, sym, subst}
use Rattle.std.specs.Prelude.{All}
use Rattle.std.specs.Cmp.{first_so, second_so}
use Rattle.std.specs.List.{list_all}
use Rattle.std.proofs.lemmas.List.Elements.{All-append, All-cons, All-head, All-nil, All-tail}
use Rattle.shx_term.specs.declared.term.Term.{Term}
use Rattle.shx_term.specs.declared.term.Term.TheVariants.{Iri, Blank, Lit}
use Rattle.shx_term.specs.declared.triple.TermTriple.{TermTriple}
use Rattle.shx_term.specs.Pool.{Pooled, is_held, with_term, with_terms}
use Rattle.shx_term.specs.TripleTerms.{terms_of}
use Rattle.shx_term.specs.ValidTriples.{IsNotWide, IsValidTermTriple}
use Rattle.shx_term.specs.Vocabulary.{vocabulary}
use Rattle.graph_view.specs.Valid.{IsValidTriple, IsValidView}
use Rattle.graph_view.proofs.ValidLemmas.{narrow_predicate, narrow_subject, valid_numbered}
use Rattle.ttl_meaning.specs.declared.document.Document.{Document}
use Rattle.ttl_meaning.specs.inner.DocumentOf.{IsDocumentOf}
use Rattle.ttl_meaning.specs.IsStated.{Bounds}
use Rattle.ttl_meaning.specs.State.{State}
use Rattle.shape_text.specs.Turtle.{HasNoWide}

-- ---- terms that are no wide literals

abbrev is_iri_term : Term → Bool
is_iri_term (Iri iri) = true
is_iri_term (Blank blank) = false
is_iri_term (Lit literal) = false

narrow_iri : (t : Term) → is_iri_term t ≡ true → IsNotWide t
narrow_iri (Iri iri) is = tt
narrow_iri (Blank blank) is = tt
narrow_iri (Lit literal) is = absurd (cc)

narrow_iris : (ts : List Term) → list_all is_iri_term ts ≡ true → HasNoWide ts
narrow_iris [] is = All-nil IsNotWide
narrow_iris (t ∷ ts) is =
    All-cons IsNotWide t ts (narrow_iri t (first_so (is_iri_term t) (list_all is_iri_term ts) is))
    (narrow_iris ts (second_so (is_iri_term t) (list_all is_iri_term ts) is))

-- those of the vocabulary
pub narrow_vocabulary : HasNoWide vocabulary
unfolding vocabulary
narrow_vocabulary = narrow_iris vocabulary refl

-- those held, and one more
narrow_next : (held : List Term) (t : Term) → HasNoWide held → IsNotWide t → HasNoWide (with_term held t)
narrow_next held t narrow is =
    elim (is_held held t) as (λ b. HasNoWide (if b then held else held ++ t ∷ [])) [
      | true ↦ narrow
      | false ↦ All-append IsNotWide held (t ∷ []) narrow (All-cons IsNotWide t [] is (All-nil IsNotWide))
    ]

-- ... and those of valid triples
narrow_entered : (held : List Term) (ts : List TermTriple) → HasNoWide held → All IsValidTermTriple ts
    → HasNoWide (with_terms held (terms_of ts))
narrow_entered held [] narrow all = narrow
narrow_entered held (t ∷ ts) narrow all =
    let fit = All-head IsValidTermTriple t ts all in
    let one = narrow_next held t.s narrow (narrow_subject t.s fit.subject) in
    let two = narrow_next (with_term held t.s) t.p one (narrow_predicate t.p fit.predicate) in
    let three = narrow_next (with_term (with_term held t.s) t.p) t.o two fit.object in
    narrow_entered (with_term (with_term (with_term held t.s) t.p) t.o) ts three
    (All-tail IsValidTermTriple t ts all)

-- ---- documents

-- a document is a valid view, where no wide literal was held before it
pub valid_document : (bounds : Bounds) (s : State) (document : Document) (pool : Pooled)
    → IsDocumentOf bounds s document pool → HasNoWide bounds.held
    → IsValidView (record { terms = pool.terms; triples = document.triples.items })
valid_document bounds s document pool is narrow =
    record {
      triples = subst (All (IsValidTriple pool.terms)) (sym is.triples)
          (valid_numbered pool.terms s.triples is.valid);
      terms = subst HasNoWide (sym is.terms) (narrow_entered bounds.held s.triples narrow is.valid);
    }
