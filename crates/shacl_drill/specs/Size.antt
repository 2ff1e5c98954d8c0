-- How many nodes the words of a drill ask for.
use Rattle.std.specs.Prelude.{◌≡◌, ℕ, ◌≤◌, List, [], ◌∷◌, decimal}

-- there is one word, the decimal digits of n without leading zeros, and n is from 1 to 100000
pub record AskFor (words : List (List ℕ)) (n : ℕ) : Type 0 where
  pub one_word : words ≡ decimal n ∷ []
  pub some : 1 ≤ n
  pub few : n ≤ 100000

abbrev pub AskForNone : List (List ℕ) → Type 0
AskForNone words = (n : ℕ) → AskFor words n → ⊥
