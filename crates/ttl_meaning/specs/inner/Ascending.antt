-- Texts in the order of their bytes.
use Rattle.std.specs.Prelude.{ℕ, List}
use Rattle.std.specs.Cmp.Lexicographic.{slice_cmp}
use Rattle.std.specs.List.Sorted.{IsStrictlySortedBy}
use Rattle.std.specs.Ordering.{nat_cmp}

-- they go up, each once
abbrev pub AreAscending : List (List ℕ) → Type 0
AreAscending texts = IsStrictlySortedBy (slice_cmp nat_cmp) texts
