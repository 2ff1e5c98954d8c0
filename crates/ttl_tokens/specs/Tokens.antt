-- Which token stands at a place: the terminal that takes the longest front.
use Rattle.std.specs.Prelude.{◌≡◌, ℕ, ◌<◌, ◌≤◌, ◌⊎◌, List, [], ◌∷◌, length, drop}
use Rattle.std.specs.Str.{IsCharBoundary, chars}
use Rattle.ttl_tokens.specs.declared.token.Token.{Token}
use Rattle.ttl_tokens.specs.declared.token.TokenKind.{TokenKind}
use Rattle.ttl_tokens.specs.declared.token.TokenKind.TheVariants.{Anon, End, StringQuote, StringSingleQuote}
use Rattle.ttl_tokens.specs.Form.{Takes}
use Rattle.ttl_tokens.specs.Chars.{PastChar}
use Rattle.ttl_tokens.specs.Blanks.{SkipsBlanks}
use Rattle.ttl_tokens.specs.Terminals.{terminal, three_quotes}

-- square brackets with only white space and comments between them
abbrev pub IsAnon : List ℕ → List ℕ → Type 0
IsAnon xs ys = (inside : List ℕ) × (xs ≡ 91 ∷ inside) × SkipsBlanks inside (93 ∷ ys)

-- three equal quotes begin a long string or no token
abbrev pub BeginsLong : ℕ → List ℕ → Type 0
BeginsLong q xs = (zs : List ℕ) × Takes PastChar (three_quotes q) xs zs

-- the terminal takes a front of xs and leaves ys
abbrev pub Stands : TokenKind → List ℕ → List ℕ → Type 0
Stands Anon xs ys = IsAnon xs ys
Stands StringQuote xs ys = Takes PastChar (terminal StringQuote) xs ys × (BeginsLong 34 xs → ⊥)
Stands StringSingleQuote xs ys = Takes PastChar (terminal StringSingleQuote) xs ys × (BeginsLong 39 xs → ⊥)
Stands kind xs ys = Takes PastChar (terminal kind) xs ys

-- the terminal takes a longer front than any other, or than itself in another way
pub record IsToken (xs : List ℕ) (kind : TokenKind) (ys : List ℕ) : Type 0 where
  pub stands : Stands kind xs ys
  pub longest : (k : TokenKind) (zs : List ℕ) → Stands k xs zs
      → ((k ≡ kind) × (zs ≡ ys)) ⊎ (length ys < length zs)

-- no terminal takes a front
pub record IsNoToken (xs : List ℕ) : Type 0 where
  pub none : (k : TokenKind) (zs : List ℕ) → Stands k xs zs → ⊥

-- the token behind white space and comments: a terminal, or the end of the text
abbrev pub IsNext : List ℕ → TokenKind → List ℕ → Type 0
IsNext xs End ys = (xs ≡ []) × (ys ≡ [])
IsNext xs kind ys = IsToken xs kind ys

-- behind white space and comments from byte `at` on, the token stands, from its start to its end
pub record IsTokenAt (text : List ℕ) (at : ℕ) (token : Token) : Type 0 where
  pub from : at ≤ token.start
  pub order : token.start ≤ token.end
  pub within : token.end ≤ length text
  pub begin : IsCharBoundary text token.start
  pub end : IsCharBoundary text token.end
  pub behind : SkipsBlanks (chars (drop at text)) (chars (drop token.start text))
  pub next : IsNext (chars (drop token.start text)) token.kind (chars (drop token.end text))

-- behind white space and comments from byte `at` on, something stands at this byte that begins no token
pub record IsNoTokenAt (text : List ℕ) (at fault : ℕ) : Type 0 where
  pub from : at ≤ fault
  pub within : fault < length text
  pub begin : IsCharBoundary text fault
  pub behind : SkipsBlanks (chars (drop at text)) (chars (drop fault text))
  pub none : IsNoToken (chars (drop fault text))
