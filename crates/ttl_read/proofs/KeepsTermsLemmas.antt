-- What a pool keeps while a text is read, and what is left of it where it is cut back.
use Rattle.std.proofs.Common.{◌≡◌, ℕ, suc, ◌≤◌, List, [], ◌∷◌, length, length-append, take, refl, ap, ◌∙◌}
use Rattle.std.proofs.Common.{Some, arith}
use Rattle.std.specs.Prelude.{slice_get}
use Rattle.std.proofs.lemmas.Option.{none-some, same_Some}
use Rattle.shx_term.specs.declared.term.Term.{Term}
use Rattle.shx_term.specs.Pool.{Pooled}
use Rattle.shx_term.specs.Vocabulary.{HasVocabulary, vocabulary}
use Rattle.shx_term.proofs.VocabularyLemmas.{length-vocabulary}
use Rattle.ttl_meaning.specs.KeepsTerms.{KeepsTerms}

pub keeps_then : {p q r : Pooled} → KeepsTerms p q → KeepsTerms q r → KeepsTerms p r
keeps_then first next = record {
  limit = next.limit ∙ first.limit;
  each = λ id t is. next.each id t (first.each id t is);
}

-- a list in which each number has what it has in another begins with that
kept_front : {X : Type 0} (xs ys : List X)
    → ((i : ℕ) (x : X) → slice_get xs i ≡ Some x → slice_get ys i ≡ Some x)
    → (length xs ≤ length ys) × (take (length xs) ys ≡ xs)
kept_front [] ys each = (omega arith, refl)
kept_front (x ∷ xs) [] each = absurd (none-some x (each 0 x refl))
kept_front (x ∷ xs) (y ∷ ys) each =
    let rest = kept_front xs ys (λ i z is. each (suc i) z is) in
    let here : y ≡ x = same_Some y x (each 0 x refl) in
    (omega (arith, rest.0), ap (λ z. z ∷ take (length xs) ys) here ∙ ap (λ zs. x ∷ zs) rest.1)

pub no_fewer : {p q : Pooled} → KeepsTerms p q → length p.terms ≤ length q.terms
no_fewer {p} {q} keeps = (kept_front p.terms q.terms keeps.each).0

pub cut_back : {p q : Pooled} → KeepsTerms p q → take (length p.terms) q.terms ≡ p.terms
cut_back {p} {q} keeps = (kept_front p.terms q.terms keeps.each).1

pub vocabulary_within : (terms : List Term) → HasVocabulary terms → 62 ≤ length terms
vocabulary_within terms has =
    omega (arith, ap length has.begins, length-append vocabulary has.more, length-vocabulary)
