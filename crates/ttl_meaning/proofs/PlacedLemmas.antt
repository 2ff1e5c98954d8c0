-- Terms that stand at numbers, and contexts, where a pool gains terms.
use Rattle.std.specs.Prelude.{◌≡◌, ℕ, ◌<◌, true, List, [], ◌∷◌, Some, position, slice_get, codes}
use Rattle.std.specs.List.{IsDistinct}
use Rattle.std.proofs.Common.{refl, ap, ◌∙◌, arith, get_or}
use Rattle.std.proofs.lemmas.List.Folds.{list_any_at}
use Rattle.std.proofs.lemmas.Map.Keys.{apart_from_distinct}
use Rattle.std.proofs.lemmas.Option.{slice_get_within, get_or_from_slice_get}
use Rattle.shx_term.specs.declared.term.Term.{Term as term}
use Rattle.shx_term.specs.declared.term.Term.TheVariants.{Iri}
use Rattle.shx_term.specs.Pool.{Pooled, is_held, with_term}
use Rattle.shx_term.specs.TermOrder.{same_term}
use Rattle.shx_term.specs.Vocabulary.{vocabulary, HasVocabulary}
use Rattle.shx_term.specs.inner.TermOrderLaws.{same_term_itself}
use Rattle.shx_term.proofs.HeldLemmas.{number_in-known}
use Rattle.shx_term.proofs.PlaceLemmas.{slice_get-position}
use Rattle.shx_term.proofs.VocabularyLemmas.{vocabulary_stands}
use Rattle.ttl_meaning.specs.declared.placed.Placed.{Placed}
use Rattle.ttl_meaning.specs.declared.placed.Placed.TheVariants.{Term, Id}
use Rattle.ttl_meaning.specs.declared.context.Context.{Context as kept_context}
use Rattle.ttl_meaning.specs.declared.context.Context.TheVariants.{Open as AnOpen, About as AnAbout}
use Rattle.ttl_meaning.specs.declared.context.Context.TheVariants.{Of as AnOf}
use Rattle.ttl_meaning.specs.KeepsTerms.{KeepsTerms}
use Rattle.ttl_meaning.specs.State.{Context, Open, About, Of, subject_term}
use Rattle.ttl_meaning.specs.Terms.{rdf_iri}
use Rattle.ttl_meaning.specs.inner.Placed.{IsPlaced, IsContext, AreContexts}

-- ---- a term that stands at a number

module _ (terms : List term) (t : term) where
  pub held-at : (id : ℕ) → slice_get terms id ≡ Some t → is_held terms t ≡ true
  held-at id e =
      list_any_at (same_term t) terms id t (slice_get_within terms id t e)
      (ap (same_term t) (get_or_from_slice_get terms id t t e) ∙ same_term_itself t)

  -- it is entered no more
  pub with_term-at : (id : ℕ) → slice_get terms id ≡ Some t → terms ≡ with_term terms t
  with_term-at id e = rw (held-at id e) refl

  -- it stands nowhere else
  stands_once : (i j : ℕ) → IsDistinct same_term terms → slice_get terms i ≡ Some t
      → slice_get terms j ≡ Some t → i < j → ⊥
  stands_once i j distinct at also before =
      let apart =
      apart_from_distinct same_term terms i j t distinct before (slice_get_within terms j t also) in
      let first : get_or terms i t ≡ t = get_or_from_slice_get terms i t t at in
      let second : get_or terms j t ≡ t = get_or_from_slice_get terms j t t also in
      cc (apart, first, second, same_term_itself t)

  pub position-at : (id : ℕ) → IsDistinct same_term terms → slice_get terms id ≡ Some t
      → position (same_term t) terms ≡ Some id
  position-at id distinct e =
      let place = number_in-known terms t (held-at id e) in
      let there = slice_get-position terms t place.0 place.2 in
      let same : place.0 ≡ id =
      omega (arith, stands_once place.0 id distinct there e, stands_once id place.0 distinct e there) in
      place.2 ∙ ap Some same

-- ---- where a pool gains terms

module _ (before after : Pooled) (keeps : KeepsTerms before after) where
  -- a term stays placed, and contexts stay what they are
  pub IsPlaced-kept : (placed : Placed) (t : term) → IsPlaced before.terms placed t
      → IsPlaced after.terms placed t
  IsPlaced-kept (Term u) t is = is
  IsPlaced-kept (Id id) t at = keeps.each id t at

  pub IsContext-kept : (kept : kept_context) (context : Context) → IsContext before.terms kept context
      → IsContext after.terms kept context
  IsContext-kept AnOpen Open is = is
  IsContext-kept (AnAbout subject) (About s) is = IsPlaced-kept subject (subject_term s) is
  IsContext-kept (AnOf subject verb) (Of s iri) is =
      (IsPlaced-kept subject (subject_term s) is.0, IsPlaced-kept verb (Iri iri) is.1)
  IsContext-kept kept context is = absurd is

  pub AreContexts-kept : (outer : List kept_context) (contexts : List Context)
      → AreContexts before.terms outer contexts → AreContexts after.terms outer contexts
  AreContexts-kept [] [] are = are
  AreContexts-kept (kept ∷ outer) (context ∷ others) are =
      (IsContext-kept kept context are.0, AreContexts-kept outer others are.1)
  AreContexts-kept outer contexts are = absurd are

-- ---- the numbers of the vocabulary

module _ (terms : List term) (has : HasVocabulary terms) where
  pub type_placed : slice_get terms 0 ≡ Some (Iri (rdf_iri (codes "type")))
  unfolding vocabulary
  type_placed = vocabulary_stands terms 0 (Iri (rdf_iri (codes "type"))) has refl

  pub first_placed : slice_get terms 1 ≡ Some (Iri (rdf_iri (codes "first")))
  unfolding vocabulary
  first_placed = vocabulary_stands terms 1 (Iri (rdf_iri (codes "first"))) has refl

  pub rest_placed : slice_get terms 2 ≡ Some (Iri (rdf_iri (codes "rest")))
  unfolding vocabulary
  rest_placed = vocabulary_stands terms 2 (Iri (rdf_iri (codes "rest"))) has refl

  pub nil_placed : slice_get terms 3 ≡ Some (Iri (rdf_iri (codes "nil")))
  unfolding vocabulary
  nil_placed = vocabulary_stands terms 3 (Iri (rdf_iri (codes "nil"))) has refl
