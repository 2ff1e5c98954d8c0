-- Terms by their numbers, as they are written.
use Rattle.std.specs.Prelude.{ℕ, List, [], Option, Some, None, codes, slice_get}
use Rattle.shx_term.specs.declared.term.Term.{Term}
use Rattle.shx_term.specs.Spelling.{spelling_of}

abbrev pub spelling_at : Option Term → List ℕ
spelling_at None = []
spelling_at (Some term) = spelling_of term

-- the spelling of a number's term, and nothing where it has none
abbrev pub number_text : List Term → ℕ → List ℕ
number_text terms n = spelling_at (slice_get terms n)

-- the same, or `-` where there is no number
abbrev pub optional_text : List Term → Option ℕ → List ℕ
optional_text terms None = codes "-"
optional_text terms (Some n) = number_text terms n
