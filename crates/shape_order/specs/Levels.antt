-- How far a shape stands above those that refer to none.
use Rattle.std.specs.Prelude.{◌≡◌, ℕ, zero, suc, ◌+◌, ◌<◌, List, [], ◌∷◌, map, max}
use Rattle.shape_order.specs.Refs.{Refers}

-- one more than the greatest of them; 0 where there are none
abbrev pub above : List ℕ → ℕ
above [] = 0
above (l ∷ ls) = max (l + 1) (above ls)

-- so many references, one behind the other, lead on from the shape
abbrev pub HasSteps : (ℕ → List ℕ) → ℕ → ℕ → Type 0
HasSteps to zero i = Unit {0}
HasSteps to (suc n) i = (j : ℕ) × Refers to i j × HasSteps to n j

-- each level is one more than the greatest of the shapes that the shape refers to
pub record AreLevels (to : ℕ → List ℕ) (count : ℕ) (level : ℕ → ℕ) : Type 0 where
  pub each : (i : ℕ) → i < count → level i ≡ above (map level (to i))
