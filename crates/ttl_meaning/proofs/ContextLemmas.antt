-- The innermost of the contexts, and that the triples which it makes are valid.
use Rattle.std.specs.Prelude.{◌≡◌, List, [], ◌∷◌, ◌++◌, reverse, All}
use Rattle.std.proofs.Common.{refl, sym, ap, ◌∙◌, subst}
use Rattle.std.proofs.lemmas.List.{reverse-append}
use Rattle.std.proofs.lemmas.List.Elements.{All-nil, All-cons}
use Rattle.shx_term.specs.declared.term.Term.{Term as term}
use Rattle.shx_term.specs.declared.term.Term.TheVariants.{Iri}
use Rattle.shx_term.specs.ValidTriples.{IsNoLiteral, IsNotWide, IsValidTermTriple}
use Rattle.ttl_meaning.specs.declared.context.Context.{Context as kept_context}
use Rattle.ttl_meaning.specs.State.{Context, Of, Subject, AnIri, ABlank, subject_term, triple_in}
use Rattle.ttl_meaning.specs.inner.Placed.{IsContext, AreContexts}

-- ---- triples are valid

pub subject_is_no_literal : (s : Subject) → IsNoLiteral (subject_term s)
subject_is_no_literal (AnIri iri) = tt
subject_is_no_literal (ABlank name) = tt

pub subject_is_not_wide : (s : Subject) → IsNotWide (subject_term s)
subject_is_not_wide (AnIri iri) = tt
subject_is_not_wide (ABlank name) = tt

-- a triple that an object makes in a context is valid
pub triple_in-valid : (t : term) (context : Context) → IsNotWide t
    → All IsValidTermTriple (triple_in t context)
triple_in-valid t (Of s iri) narrow =
    All-cons IsValidTermTriple (record { s = subject_term s; p = Iri iri; o = t }) []
    (record { subject = subject_is_no_literal s; predicate = tt; object = narrow })
    (All-nil IsValidTermTriple)
triple_in-valid t context narrow = All-nil IsValidTermTriple

-- ---- contexts: a reading has the innermost last, and a state has it first

-- the innermost of these contexts, and the others
pub record HasInnermost (terms : List term) (last : kept_context) (left : List kept_context)
    (contexts : List Context) : Type 0 where
  pub context : Context
  pub outer : List Context
  pub is : contexts ≡ context ∷ outer
  pub innermost : IsContext terms last context
  pub others : AreContexts terms (reverse left) outer

module _ (terms : List term) (kept left : List kept_context) (last : kept_context)
    (are_kept : kept ≡ left ++ last ∷ []) where
  backwards : reverse kept ≡ last ∷ reverse left
  backwards = ap reverse are_kept ∙ reverse-append left (last ∷ [])

  -- what is last in a reading is innermost
  pub HasInnermost-last : (contexts : List Context) → AreContexts terms (reverse kept) contexts
      → HasInnermost terms last left contexts
  HasInnermost-last contexts are =
      by_contexts contexts (subst (λ xs. AreContexts terms xs contexts) backwards are)
    where
      by_contexts : (contexts : List Context) → AreContexts terms (last ∷ reverse left) contexts
          → HasInnermost terms last left contexts
      by_contexts (context ∷ outer) are = record {
        context = context;
        outer = outer;
        is = refl;
        innermost = are.0;
        others = are.1;
      }
      by_contexts [] are = absurd are

  -- and what is innermost is last
  pub AreContexts-pushed : (context : Context) (outer : List Context) → IsContext terms last context
      → AreContexts terms (reverse left) outer → AreContexts terms (reverse kept) (context ∷ outer)
  AreContexts-pushed context outer is are =
      subst (λ xs. AreContexts terms xs (context ∷ outer)) (sym backwards) (is, are)
