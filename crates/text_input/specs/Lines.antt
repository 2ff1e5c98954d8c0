-- How a text falls into lines, and which lines of a script are answered.
use Rattle.std.specs.Prelude.{◌≡◌, ℕ, Bool, false, ◌==◌, nat_le, List, [], ◌∷◌, take, length, if◌then◌else◌}
use Rattle.std.specs.List.{slice_split, All}

abbrev pub is_line_feed : ℕ → Bool
is_line_feed b = b == 10

-- no line feed stands among the bytes
pub record HasNoFeed (bytes : List ℕ) : Type 0 where
  pub each : All (λ b. is_line_feed b ≡ false) bytes

-- the parts of a list without a last one that is empty
abbrev pub without_empty_end : List (List ℕ) → List (List ℕ)
without_empty_end [] = []
without_empty_end ([] ∷ []) = []
without_empty_end ((b ∷ bs) ∷ []) = (b ∷ bs) ∷ []
without_empty_end (part ∷ (next ∷ parts)) = part ∷ without_empty_end (next ∷ parts)

-- the parts that line feeds end, and what stands behind the last of them where that is not empty
abbrev pub lines_of : List ℕ → List (List ℕ)
lines_of text = without_empty_end (slice_split is_line_feed text)

-- the parts of a list without the last
abbrev pub without_last : {X : Type 0} → List X → List X
without_last [] = []
without_last (x ∷ []) = []
without_last (x ∷ (y ∷ ys)) = x ∷ without_last (y ∷ ys)

-- the lines whose line feed stands in these bytes
abbrev pub fed_lines : List ℕ → List (List ℕ)
fed_lines bytes = without_last (slice_split is_line_feed bytes)

-- the lines of a script that are answered: all of them, or, where it is longer than the limit, those whose
-- line feed is within it
abbrev pub script_lines : ℕ → List ℕ → List (List ℕ)
script_lines limit script =
    if nat_le (length script) limit then lines_of script else fed_lines (take limit script)
