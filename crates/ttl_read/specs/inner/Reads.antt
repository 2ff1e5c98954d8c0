-- What a reader finds of a form of the grammar: it leads past it, whatever may follow, or shows that it is
-- not here.
use Rattle.std.specs.Prelude.{ℕ, ◌<◌, ◌≤◌, Bool, List, length, Option, Some, None, Result, Ok, Err}
use Rattle.std.specs.Prelude.{if◌then◌else◌}
use Rattle.std.specs.Str.{IsCharBoundary}
use Rattle.shx_term.specs.Pool.{Pooled}
use Rattle.ttl_tokens.specs.declared.token.Token.{Token}
use Rattle.ttl_tokens.specs.declared.token.TokenKind.{TokenKind}
use Rattle.ttl_tokens.specs.declared.token.NoToken.{NoToken}
use Rattle.ttl_tokens.specs.inner.Lookahead.{KnowsAhead}
use Rattle.ttl_tokens.specs.Tokens.{IsTokenAt, IsNoTokenAt}
use Rattle.ttl_tokens.specs.Walks.{Never, Only}
use Rattle.ttl_meaning.specs.inner.IsReading.{IsReading}
use Rattle.ttl_meaning.specs.IsStated.{Bounds}
use Rattle.ttl_meaning.specs.State.{State}
use Rattle.ttl_read.specs.declared.reader.Tokens.{Tokens}
use Rattle.ttl_read.specs.declared.reader.Reader.{Reader}
use Rattle.ttl_read.specs.declared.reader.Refused.{Refused}
use Rattle.ttl_read.specs.declared.reader.Refused.TheVariants.{Syntax, Memory}
use Rattle.ttl_read.specs.inner.Follows.{Leads, Fails}
use Rattle.ttl_read.specs.Grammar.{Place, Rule, StepsTo}

-- ---- the next token

abbrev pub IsNext : List ℕ → ℕ → Result Token NoToken → Type 0
IsNext text at (Ok token) = IsTokenAt text at token
IsNext text at (Err none) = IsNoTokenAt text at none.at

-- where it begins, or what is none
abbrev pub start_of_next : Result Token NoToken → ℕ
start_of_next (Ok token) = token.start
start_of_next (Err none) = none.at

-- the next token, where it is of this kind
abbrev pub next_if : (TokenKind → Bool) → Result Token NoToken → Option Token
next_if test (Err none) = None
next_if test (Ok token) = if test token.kind then Some token else None

-- the next token was found
pub record Stands (text : List ℕ) (tokens : Tokens) : Type 0 where
  pub within : tokens.place ≤ length text
  pub boundary : IsCharBoundary text tokens.place
  pub known : KnowsAhead text tokens.ahead
  pub next : IsNext text tokens.place tokens.next

-- ... further on
pub record Advances (text : List ℕ) (before after : Tokens) : Type 0 where
  pub stands : Stands text after
  pub further : before.place < after.place

-- ---- the state

abbrev pub place : Reader → State → Place
place reader s = record { at = reader.tokens.place; state = s }

-- it leads past the form, whatever may follow and begins with none of these tokens
pub record Reads (text : List ℕ) (f : Rule) (stop : Token → Bool) (r : Reader) (p : Pooled) (r' : Reader)
    (p' : Pooled) : Type 0 where
  pub on : (bounds : Bounds) (s : State) → IsReading bounds s r.reading p
      → (s' : State) × IsReading bounds s' r'.reading p' × Leads text f stop (place r s) (place r' s')

-- neither the form nor what may follow it is here
pub record Refuses (text : List ℕ) (f : Rule) (stop : Token → Bool) (r : Reader) (p : Pooled) : Type 0 where
  pub none : (bounds : Bounds) (s : State) → IsReading bounds s r.reading p → Fails text f stop (place r s)

abbrev pub Parses : List ℕ → Rule → (Token → Bool) → Reader → Pooled → Reader → Pooled
    → Result (Unit {0}) Refused → Type 0
Parses text f stop r p r' p' (Ok u) = Reads text f stop r p r' p'
Parses text f stop r p r' p' (Err Syntax) = Refuses text f stop r p
Parses text f stop r p r' p' (Err Memory) = Unit

-- ---- a form that nothing follows

pub record Passes (text : List ℕ) (f : Rule) (r : Reader) (p : Pooled) (r' : Reader) (p' : Pooled)
    : Type 0 where
  pub on : (bounds : Bounds) (s : State) → IsReading bounds s r.reading p
      → (s' : State) × IsReading bounds s' r'.reading p' × Only (StepsTo text) f (place r s) (place r' s')

pub record IsNowhere (text : List ℕ) (f : Rule) (r : Reader) (p : Pooled) : Type 0 where
  pub none : (bounds : Bounds) (s : State) → IsReading bounds s r.reading p
      → Never (StepsTo text) f (place r s)

abbrev pub ParsesAlone : List ℕ → Rule → Reader → Pooled → Reader → Pooled → Result (Unit {0}) Refused
    → Type 0
ParsesAlone text f r p r' p' (Ok u) = Passes text f r p r' p'
ParsesAlone text f r p r' p' (Err Syntax) = IsNowhere text f r p
ParsesAlone text f r p r' p' (Err Memory) = Unit
