-- What is looked for in place of what the grammar reads: it is found in the same texts.
use Rattle.std.specs.Prelude.{◌≡◌, ℕ, ◌<◌, List, get_or, is_some}
use Rattle.regex.specs.Patterns.{Re, find_str}
use Rattle.shx_outside.specs.Patterns.{BuiltPattern, is_matched}

-- in each text of bytes
abbrev pub FindsAs : Re → BuiltPattern → Type 0
FindsAs found pattern =
    (text : List ℕ) → ((k : ℕ) → get_or text k 0 < 256)
    → is_some (find_str found text 0) ≡ is_matched pattern.text pattern.flags text
