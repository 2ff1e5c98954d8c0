-- Where steps lead that are repeated, as a list.
use Rattle.std.specs.Prelude.{ℕ, nat_eq, List, [], ◌∷◌, ◌++◌, if◌then◌else◌}
use Rattle.std.specs.List.{list_any}

-- what is reached behind k, if k is reached
abbrev pub reached_behind : ℕ → List ℕ → List ℕ → List ℕ
reached_behind k reached beyond = if list_any (nat_eq k) reached then beyond else []

-- where one step or more lead from x, with no node in between but those of the list
abbrev pub through : (ℕ → List ℕ) → List ℕ → ℕ → List ℕ
through step [] x = step x
through step (k ∷ ks) x = through step ks x ++ reached_behind k (through step ks x) (through step ks k)
