-- The parts of a string; q is the quote.
use Rattle.std.specs.Prelude.{◌≡◌, ℕ, ◌⊎◌}
use Rattle.ttl_tokens.specs.Form.{Then, Many}
use Rattle.ttl_tokens.specs.Chars.{Chars}
use Rattle.ttl_tokens.specs.Terminals.{block, three_quotes}

-- one of the two quotes of Turtle
abbrev pub IsQuote : ℕ → Type 0
IsQuote q = (q ≡ 34) ⊎ (q ≡ 39)

-- of a long string, what stands behind its first three quotes
abbrev pub long_rest : ℕ → Chars
long_rest q = Then (Many (block q)) (three_quotes q)
