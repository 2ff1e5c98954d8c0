-- The terms of the vocabulary in every list that begins with it.
use Rattle.std.proofs.Common.{◌≡◌, ℕ, ◌+◌, ◌-◌, ◌<◌, ◌≤◌, ◌∙◌, true, false, List, [], ◌∷◌, ◌++◌, take, length}
use Rattle.std.proofs.Common.{refl, ap, arith, append_assoc, length-append, if◌then◌else◌}
use Rattle.std.proofs.Math.Seq.{take-append-add}
use Rattle.std.proofs.lemmas.List.{length-take}
use Rattle.std.proofs.lemmas.Option.{slice_get_within}
use Rattle.shx_term.specs.declared.term.Term.{Term}
use Rattle.shx_term.specs.Pool.{IsPool, is_held, with_term}
use Rattle.shx_term.specs.Vocabulary.{vocabulary, HasVocabulary, VocabularyStands}
use Rattle.shx_term.proofs.IdOrderLemmas.{slice_get-append}

pub length-vocabulary : length vocabulary ≡ 62
unfolding vocabulary
length-vocabulary = refl

pub vocabulary_stands : VocabularyStands
vocabulary_stands terms id t has e =
    rw has.begins (slice_get-append vocabulary has.more id (slice_get_within vocabulary id t e) ∙ e)

-- what is kept of terms that begin with it begins with it, where it is as long
pub HasVocabulary-take : (terms : List Term) (n : ℕ) → 62 ≤ n → HasVocabulary terms
    → HasVocabulary (take n terms)
HasVocabulary-take terms n long has =
    let whole : n ≡ length vocabulary + (n - length vocabulary) = omega (arith, long, length-vocabulary) in
    record {
      more = take (n - length vocabulary) has.more;
      begins = ap (take n) has.begins
          ∙ ap (λ k. take k (vocabulary ++ has.more)) whole
          ∙ take-append-add vocabulary has.more (n - length vocabulary);
    }

-- and what is kept of a pool is a pool
pub IsPool-take : (terms : List Term) (limit n : ℕ) → 62 ≤ n → IsPool terms limit
    → IsPool (take n terms) limit
IsPool-take terms limit n long pool = record {
  within = rw (length-take n terms) (omega (arith, pool.within));
  limit_fits = pool.limit_fits;
  vocabulary = HasVocabulary-take terms n long pool.vocabulary;
}

-- and a pool with a term more, where there is room for one, is a pool
pub IsPool-entered : (terms : List Term) (limit : ℕ) (t : Term) → length terms < limit → IsPool terms limit
    → IsPool (with_term terms t) limit
IsPool-entered terms limit t below pool =
    elim (is_held terms t) as (λ b. IsPool (if b then terms else terms ++ t ∷ []) limit) [
      | true ↦ pool
      | false ↦ record {
        within = omega (arith, length-append terms (t ∷ []));
        limit_fits = pool.limit_fits;
        vocabulary = record {
          more = pool.vocabulary.more ++ t ∷ [];
          begins = ap (λ ts. ts ++ t ∷ []) pool.vocabulary.begins
              ∙ append_assoc vocabulary pool.vocabulary.more (t ∷ []);
        };
      }
    ]
