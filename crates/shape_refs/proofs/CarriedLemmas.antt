-- Chains of references, carried from numbers of one kind to numbers of another.
use Rattle.std.specs.Prelude.{◌≡◌, ℕ, zero, suc, List, [], ◌∷◌}
use Rattle.std.proofs.Common.{refl, subst}
use Rattle.shx_term.specs.Chains.{Chain, Longer, Walk}
use Rattle.shape_order.specs.Chain.{IsRecursive}
use Rattle.shape_order.specs.Levels.{HasSteps}
use Rattle.shape_order.specs.Refs.{Refers}

-- where i stands for x, what i refers to stands for what x refers to
pub record Carries (to other : ℕ → List ℕ) (M : ℕ → ℕ → Type 0) : Type 0 where
  pub step : (i x j : ℕ) → M i x → Refers to i j → (y : ℕ) × M j y × Refers other x y

module _ (to other : ℕ → List ℕ) (M : ℕ → ℕ → Type 0) (carries : Carries to other M) where
  walk_carried : (ns : List ℕ) (i x j : ℕ) → M i x → Walk (Refers to) i ns j
      → (y : ℕ) × M j y × Chain (Refers other) x y
  walk_carried [] i x j m e = (x, subst (λ k. M k x) e m, ([], refl))
  walk_carried (n ∷ ns) i x j m walk =
      let next = carries.step i x n m walk.0 in
      let rest = walk_carried ns n next.0 j next.1 walk.1 in
      (rest.0, rest.1, (next.0 ∷ rest.2.0, (next.2, rest.2.1)))

  longer_carried : (i x j : ℕ) → M i x → Longer (Refers to) i j
      → (y : ℕ) × M j y × Longer (Refers other) x y
  longer_carried i x j m longer =
      let next = carries.step i x longer.0 m longer.1 in
      let rest = walk_carried longer.2.0 longer.0 next.0 j next.1 longer.2.1 in
      (rest.0, rest.1, (next.0, next.2, rest.2))

  -- where each stands for one alone
  pub recursive_carried : ((i x y : ℕ) → M i x → M i y → x ≡ y) → (i x : ℕ) → M i x → IsRecursive to i
      → IsRecursive other x
  recursive_carried one i x m longer =
      let found = longer_carried i x i m longer in
      subst (Longer (Refers other) x) (one i found.0 x found.1 m) found.2

  pub steps_carried : (k i x : ℕ) → M i x → HasSteps to k i → HasSteps other k x
  steps_carried zero i x m steps = tt
  steps_carried (suc k) i x m steps =
      let next = carries.step i x steps.0 m steps.1 in
      (next.0, next.2, steps_carried k steps.0 next.0 next.1 steps.2)
