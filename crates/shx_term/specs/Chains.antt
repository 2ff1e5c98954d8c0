-- Chains of numbers, each related to the next.
use Rattle.std.specs.Prelude.{◌≡◌, ℕ, List, [], ◌∷◌}

-- from x past these to y
abbrev pub Walk : (ℕ → ℕ → Type 0) → ℕ → List ℕ → ℕ → Type 0
Walk R x [] y = x ≡ y
Walk R x (n ∷ ns) y = R x n × Walk R n ns y

-- none or more steps
abbrev pub Chain : (ℕ → ℕ → Type 0) → ℕ → ℕ → Type 0
Chain R x y = (ns : List ℕ) × Walk R x ns y

-- one step or more
abbrev pub Longer : (ℕ → ℕ → Type 0) → ℕ → ℕ → Type 0
Longer R x y = (n : ℕ) × R x n × Chain R n y
