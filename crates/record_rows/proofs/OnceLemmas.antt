-- Entries whose keys are told apart, and one more that is not among them.
use Rattle.std.specs.Prelude.{◌≡◌, Bool, false, ◌||◌, List, [], ◌∷◌, ◌++◌}
use Rattle.std.specs.Cmp.{IsEquivalence}
use Rattle.std.specs.List.{IsDistinct, list_any}
use Rattle.std.specs.Map.{keys_of}
use Rattle.std.proofs.Common.{refl, ap, ◌∙◌}
use Rattle.std.proofs.lemmas.List.{map-append}
use Rattle.std.proofs.lemmas.Map.Keys.{IsDistinct-push}

pub none_apart : {K : Type 0} (same : K → K → Bool) → IsDistinct same []
unfolding IsDistinct
none_apart same = tt

module _ {K X : Type 0} (same : K → K → Bool) where
  any_of_keys : (key : K) (entries : List (K × X))
      → list_any (same key) (keys_of entries) ≡ list_any (λ e. same key e.0) entries
  any_of_keys key [] = refl
  any_of_keys key (e ∷ rest) = ap (λ b. same key e.0 || b) (any_of_keys key rest)

  pub once_with : IsEquivalence same → (all : List (K × X)) (more : K × X) → IsDistinct same (keys_of all)
      → list_any (λ e. same more.0 e.0) all ≡ false → IsDistinct same (keys_of (all ++ more ∷ []))
  once_with laws all more once absent =
      rw map-append (IsDistinct-push laws (keys_of all) more.0 once (any_of_keys more.0 all ∙ absent))
