-- Texts with a mark at each end.
use Rattle.std.specs.Prelude.{◌≡◌, ℕ, List, ◌++◌, length}
use Rattle.std.specs.Str.{IsAscii}

-- so many characters at each end are of ASCII, so that each is one byte
pub record HasMarks (n : ℕ) (xs : List ℕ) : Type 0 where
  pub front : List ℕ
  pub middle : List ℕ
  pub back : List ℕ
  pub parts : xs ≡ front ++ (middle ++ back)
  pub front_length : length front ≡ n
  pub back_length : length back ≡ n
  pub front_ascii : IsAscii front
  pub back_ascii : IsAscii back
