-- What the walks over labels and names say of the forms that they pass.
use Rattle.std.specs.Prelude.{◌≡◌, ℕ, Bool, true, false, ◌||◌, ◌==◌, List, codes}
use Rattle.ttl_tokens.specs.declared.token.TokenKind.{TokenKind}
use Rattle.ttl_tokens.specs.declared.token.TokenKind.TheVariants.{WordA, WordTrue, WordFalse, WordPrefix}
use Rattle.ttl_tokens.specs.declared.token.TokenKind.TheVariants.{WordBase}
use Rattle.ttl_tokens.specs.Form.{Item, Or, Takes}
use Rattle.ttl_tokens.specs.Walks.{Never, Only}
use Rattle.ttl_tokens.specs.Chars.{Chars, PastChar, word, dotted, is_digit, is_name_char}
use Rattle.ttl_tokens.specs.Chars.{is_name_start_or_line}
use Rattle.ttl_tokens.specs.Terminals.{plx, terminal}

-- what a label begins with, and a local name, and what this holds behind its first character
abbrev pub label_start : Chars
label_start = Item (λ c. is_name_start_or_line c || is_digit c)

abbrev pub local_start : Chars
local_start = Or (Item (λ c. is_name_start_or_line c || (c == 58) || is_digit c)) plx

abbrev pub local_char : Chars
local_char = Or (Item (λ c. is_name_char c || (c == 58))) plx

-- what follows the first character of a label and of a prefix, and of a local name
abbrev pub name_tail : Chars
name_tail = dotted (Item is_name_char) (word (codes "."))

abbrev pub local_tail : Chars
local_tail = dotted local_char (word (codes "."))

-- one step within `dotted last dot`, and whether it took `last`
abbrev pub Steps : Chars → Chars → Bool → List ℕ → List ℕ → Type 0
Steps last dot true xs ys = Only PastChar last xs ys × Never PastChar dot xs
Steps last dot false xs ys = Only PastChar dot xs ys × Never PastChar last xs

-- ---- words

abbrev pub is_word : TokenKind → Bool
is_word WordA = true
is_word WordTrue = true
is_word WordFalse = true
is_word WordPrefix = true
is_word WordBase = true
is_word kind = false

-- this word stands at the front, and no other
pub record IsWord (xs : List ℕ) (kind : TokenKind) (ys : List ℕ) : Type 0 where
  pub word : is_word kind ≡ true
  pub takes : Takes PastChar (terminal kind) xs ys
  pub only : (k : TokenKind) (zs : List ℕ) → is_word k ≡ true → Takes PastChar (terminal k) xs zs
      → (k ≡ kind) × (zs ≡ ys)

pub record IsNoWord (xs : List ℕ) : Type 0 where
  pub none : (k : TokenKind) (zs : List ℕ) → is_word k ≡ true → Takes PastChar (terminal k) xs zs → ⊥
