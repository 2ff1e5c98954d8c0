-- What is known from looking ahead in a text.
use Rattle.std.specs.Prelude.{ℕ, ◌≤◌, ◌<◌, List, drop}
use Rattle.std.specs.Str.{IsCharBoundary, chars}
use Rattle.ttl_tokens.specs.declared.lookahead.Lookahead.{Lookahead}
use Rattle.ttl_tokens.specs.Chars.{PastChar}
use Rattle.ttl_tokens.specs.Terminals.{pname_ns}
use Rattle.ttl_tokens.specs.Walks.{Never}

-- from the one byte up to the other, no prefixed name begins
abbrev pub KnowsAhead : List ℕ → Lookahead → Type 0
KnowsAhead text a =
    (p : ℕ) → a.from ≤ p → p < a.until → IsCharBoundary text p → Never PastChar pname_ns (chars (drop p text))
