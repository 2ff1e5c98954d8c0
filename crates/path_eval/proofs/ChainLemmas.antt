-- Chains of steps: one behind the other, the other way round, and of steps that are the same.
use Rattle.std.specs.Prelude.{◌≡◌, ℕ, List, [], ◌∷◌, ◌↔◌, ◌⊎◌}
use Rattle.std.proofs.Common.{refl, sym, subst, inl, inr}
use Rattle.shx_term.specs.Chains.{Walk, Chain, Longer}

module _ (R : ℕ → ℕ → Type 0) where
  pub chain_here : (x : ℕ) → Chain R x x
  chain_here x = ([], refl)

  pub longer_step : (x y : ℕ) → R x y → Longer R x y
  longer_step x y step = (y, step, ([], refl))

  pub chain_of_longer : (x y : ℕ) → Longer R x y → Chain R x y
  chain_of_longer x y longer = (longer.0 ∷ longer.2.0, (longer.1, longer.2.1))

  walk_then : (ns : List ℕ) (x z y : ℕ) → Walk R x ns z → Chain R z y → Chain R x y
  walk_then [] x z y e chain = subst (λ w. Chain R w y) (sym e) chain
  walk_then (n ∷ ns) x z y walk chain =
      let rest = walk_then ns n z y walk.1 chain in
      (n ∷ rest.0, (walk.0, rest.1))

  pub chain_then : (x z y : ℕ) → Chain R x z → Chain R z y → Chain R x y
  chain_then x z y first second = walk_then first.0 x z y first.1 second

  pub longer_then : (x z y : ℕ) → Longer R x z → Longer R z y → Longer R x y
  longer_then x z y first second =
      (first.0, first.1, chain_then first.0 z y first.2 (chain_of_longer z y second))

  -- a chain with a step more
  pub chain_step : (x z y : ℕ) → Chain R x z → R z y → Chain R x y
  chain_step x z y chain step = chain_then x z y chain (chain_of_longer z y (longer_step z y step))

  walk_cases : (ns : List ℕ) (x y : ℕ) → Walk R x ns y → (x ≡ y) ⊎ Longer R x y
  walk_cases [] x y e = inl e
  walk_cases (n ∷ ns) x y walk = inr (n, walk.0, (ns, walk.1))

  -- no step, or one and more
  pub Chain-cases : (x y : ℕ) → Chain R x y ↔ ((x ≡ y) ⊎ Longer R x y)
  Chain-cases x y = (
    λ chain. walk_cases chain.0 x y chain.1,
    λ h. elim h [ inl e ↦ ([], e) | inr longer ↦ chain_of_longer x y longer ],
  )

-- the steps from their ends
abbrev pub Back : (ℕ → ℕ → Type 0) → ℕ → ℕ → Type 0
Back R x y = R y x

module _ (R : ℕ → ℕ → Type 0) where
  walk_back : (ns : List ℕ) (x n y : ℕ) → R x n → Walk R n ns y → Longer (Back R) y x
  walk_back [] x n y step e = longer_step (Back R) y x (subst (R x) e step)
  walk_back (m ∷ ns) x n y step walk =
      longer_then (Back R) y n x (walk_back ns n m y walk.0 walk.1) (longer_step (Back R) n x step)

  longer_back : (x y : ℕ) → Longer R x y → Longer (Back R) y x
  longer_back x y longer = walk_back longer.2.0 x longer.0 y longer.1 longer.2.1

-- a chain can be gone from its end
pub Longer-back : (R : ℕ → ℕ → Type 0) (x y : ℕ) → Longer (Back R) x y ↔ Longer R y x
Longer-back R x y = (longer_back (Back R) x y, longer_back R y x)

chain_back : (R : ℕ → ℕ → Type 0) (x y : ℕ) → Chain R x y → Chain (Back R) y x
chain_back R x y chain = elim ((Chain-cases R x y).0 chain) [
  | inl e ↦ ([], sym e)
  | inr longer ↦ chain_of_longer (Back R) y x (longer_back R x y longer)
]

pub Chain-back : (R : ℕ → ℕ → Type 0) (x y : ℕ) → Chain (Back R) x y ↔ Chain R y x
Chain-back R x y = (chain_back (Back R) x y, chain_back R y x)

-- steps that are the same wherever those of the first kind lead from x
module _ (R S : ℕ → ℕ → Type 0) (x : ℕ) (same : (z : ℕ) → Chain R x z → (y : ℕ) → R z y ↔ S z y) where
  walk_to : (ns : List ℕ) (z y : ℕ) → Chain R x z → Walk R z ns y → Walk S z ns y
  walk_to [] z y chain e = e
  walk_to (n ∷ ns) z y chain walk =
      ((same z chain n).0 walk.0, walk_to ns n y (chain_step R x z n chain walk.0) walk.1)

  walk_from : (ns : List ℕ) (z y : ℕ) → Chain R x z → Walk S z ns y → Walk R z ns y
  walk_from [] z y chain e = e
  walk_from (n ∷ ns) z y chain walk =
      let step = (same z chain n).1 walk.0 in
      (step, walk_from ns n y (chain_step R x z n chain step) walk.1)

  pub Longer-same : (y : ℕ) → Longer R x y ↔ Longer S x y
  Longer-same y = (
    λ longer.
        let walk = walk_to (longer.0 ∷ longer.2.0) x y (chain_here R x) (longer.1, longer.2.1) in
        (longer.0, walk.0, (longer.2.0, walk.1)),
    λ longer.
        let walk = walk_from (longer.0 ∷ longer.2.0) x y (chain_here R x) (longer.1, longer.2.1) in
        (longer.0, walk.0, (longer.2.0, walk.1)),
  )

-- what each step keeps, a chain keeps
module _ (R : ℕ → ℕ → Type 0) (P : ℕ → Type 0) (keeps : (x y : ℕ) → P x → R x y → P y) where
  walk_keeps : (ns : List ℕ) (x y : ℕ) → Walk R x ns y → P x → P y
  walk_keeps [] x y e p = subst P e p
  walk_keeps (n ∷ ns) x y walk p = walk_keeps ns n y walk.1 (keeps x n p walk.0)

  pub Chain-keeps : (x y : ℕ) → Chain R x y → P x → P y
  Chain-keeps x y chain p = walk_keeps chain.0 x y chain.1 p
