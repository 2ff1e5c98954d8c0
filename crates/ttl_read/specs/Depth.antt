-- How deep the brackets of a statement go.
use Rattle.std.specs.Prelude.{◌≡◌, ℕ, ◌+◌, ◌-◌, Bool, true, false, ◌&&◌, nat_le, List, [], ◌∷◌}
use Rattle.std.specs.Prelude.{Option, Some, None, if◌then◌else◌}
use Rattle.ttl_tokens.specs.declared.token.Token.{Token}
use Rattle.ttl_tokens.specs.declared.token.TokenKind.{TokenKind}
use Rattle.ttl_tokens.specs.declared.token.TokenKind.TheVariants.{Dot, End, WordPrefix, WordBase}
use Rattle.ttl_tokens.specs.declared.token.TokenKind.TheVariants.{OpenSquare, CloseSquare, OpenRound}
use Rattle.ttl_tokens.specs.declared.token.TokenKind.TheVariants.{CloseRound}
use Rattle.ttl_tokens.specs.Tokens.{IsTokenAt}

abbrev pub is_dot_or_end : TokenKind → Bool
is_dot_or_end Dot = true
is_dot_or_end End = true
is_dot_or_end kind = false

-- tokens that stand one behind the other from a place on, before the first dot
abbrev pub IsRun : List ℕ → ℕ → List Token → Type 0
IsRun text at [] = Unit
IsRun text at (t ∷ ts) = IsTokenAt text at t × (is_dot_or_end t.kind ≡ false) × IsRun text t.end ts

abbrev pub is_open : TokenKind → Bool
is_open OpenSquare = true
is_open OpenRound = true
is_open kind = false

abbrev pub is_close : TokenKind → Bool
is_close CloseSquare = true
is_close CloseRound = true
is_close kind = false

abbrev pub is_prefix_or_base : TokenKind → Bool
is_prefix_or_base WordPrefix = true
is_prefix_or_base WordBase = true
is_prefix_or_base kind = false

-- how many brackets are open behind a token, where so many were before it
abbrev pub open_behind : TokenKind → ℕ → ℕ
open_behind kind n = if is_open kind then n + 1 else if is_close kind then n - 1 else n

-- where so many are open, the first bracket that opens one too many
abbrev pub first_too_many : ℕ → ℕ → List Token → Option ℕ
first_too_many limit n [] = None
first_too_many limit n (t ∷ ts) =
    if is_open t.kind && nat_le limit n then Some t.start
    else first_too_many limit (open_behind t.kind n) ts

-- of a statement that begins with PREFIX or BASE no brackets are counted
abbrev pub first_too_deep : ℕ → List Token → Option ℕ
first_too_deep limit [] = None
first_too_deep limit (t ∷ ts) =
    if is_prefix_or_base t.kind then None else first_too_many limit 0 (t ∷ ts)

-- of the statement from a place on, this bracket opens one too many
pub record IsTooDeep (text : List ℕ) (limit at place : ℕ) : Type 0 where
  pub tokens : List Token
  pub run : IsRun text at tokens
  pub first : first_too_deep limit tokens ≡ Some place

-- no bracket of it does
abbrev pub IsNotTooDeep : List ℕ → ℕ → ℕ → Type 0
IsNotTooDeep text limit at = (place : ℕ) → IsTooDeep text limit at place → ⊥

-- ---- the same, whatever the statement begins with, where so many are open

pub record IsOneTooMany (text : List ℕ) (limit at n place : ℕ) : Type 0 where
  pub tokens : List Token
  pub run : IsRun text at tokens
  pub first : first_too_many limit n tokens ≡ Some place

abbrev pub NoneTooMany : List ℕ → ℕ → ℕ → ℕ → Type 0
NoneTooMany text limit at n = (place : ℕ) → IsOneTooMany text limit at n place → ⊥
