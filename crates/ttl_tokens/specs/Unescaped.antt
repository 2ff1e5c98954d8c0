-- What a token stands for, with its escapes undone (Turtle 1.1, section 6.4).
use Rattle.std.specs.Prelude.{◌≡◌, ℕ, zero, suc, ◌+◌, ◌-◌, ◌*◌, Bool, true, false, ◌||◌, ◌==◌, nat_lt}
use Rattle.std.specs.Prelude.{List, [], ◌∷◌, ◌++◌, length, take, drop, fold, codes, if◌then◌else◌}
use Rattle.std.specs.List.{list_all}
use Rattle.std.specs.Str.{chars}
use Rattle.ttl_tokens.specs.declared.token.Token.{Token}
use Rattle.ttl_tokens.specs.declared.token.TokenKind.{TokenKind}
use Rattle.ttl_tokens.specs.declared.token.TokenKind.TheVariants.{IriRef, PnameLn, StringQuote}
use Rattle.ttl_tokens.specs.declared.token.TokenKind.TheVariants.{StringSingleQuote, StringLongQuote}
use Rattle.ttl_tokens.specs.declared.token.TokenKind.TheVariants.{StringLongSingleQuote}
use Rattle.ttl_tokens.specs.Chars.{is_digit, is_hex, between}
use Rattle.ttl_tokens.specs.Terminals.{is_escaped, is_local_escaped}
use Rattle.ttl_tokens.specs.Tokens.{IsTokenAt}

-- ---- the part that stands for something

-- how many characters the mark at each end has
abbrev pub mark_length : TokenKind → ℕ
mark_length IriRef = 1
mark_length StringQuote = 1
mark_length StringSingleQuote = 1
mark_length StringLongQuote = 3
mark_length StringLongSingleQuote = 3
mark_length kind = 0

-- without so many characters at each end
abbrev pub without_ends : ℕ → List ℕ → List ℕ
without_ends n xs = take (length xs - 2 * n) (drop n xs)

-- behind the first colon
abbrev pub behind_colon : List ℕ → List ℕ
behind_colon [] = []
behind_colon (c ∷ cs) = if c == 58 then cs else behind_colon cs

-- of an IRI reference and a string what stands between its marks, of a prefixed name the local name
abbrev pub content : TokenKind → List ℕ → List ℕ
content PnameLn xs = behind_colon xs
content kind xs = without_ends (mark_length kind) xs

-- the kinds of tokens of which this part may hold escapes
abbrev pub may_escape : TokenKind → Bool
may_escape IriRef = true
may_escape PnameLn = true
may_escape StringQuote = true
may_escape StringSingleQuote = true
may_escape StringLongQuote = true
may_escape StringLongSingleQuote = true
may_escape kind = false

-- ---- escapes

-- the number that a hexadecimal digit has, and 0 for another character
abbrev pub digit_number : ℕ → ℕ
digit_number c =
    if is_digit c then c - 48 else if between 97 102 c then c - 87 else if between 65 70 c then c - 55 else 0

-- the number that digits write
abbrev pub number_of : List ℕ → ℕ
number_of digits = fold (λ n c. 16 * n + digit_number c) 0 digits

-- behind a backslash five letters stand for control characters, and every other character for itself
abbrev pub escaped_char : ℕ → ℕ
escaped_char c =
    if c == 116 then 9 else if c == 98 then 8 else if c == 110 then 10 else if c == 114 then 13
    else if c == 102 then 12 else c

-- an escape stands for a character
pub data StandsFor (escape : List ℕ) (c : ℕ) : Type 0 where
  -- UCHAR: the character of the number that its hexadecimal digits write
  Short : (digits : List ℕ) → list_all is_hex digits ≡ true → length digits ≡ 4
      → escape ≡ codes "\\u" ++ digits → c ≡ number_of digits → StandsFor escape c
  Long : (digits : List ℕ) → list_all is_hex digits ≡ true → length digits ≡ 8
      → escape ≡ codes "\\U" ++ digits → c ≡ number_of digits → StandsFor escape c
  -- ECHAR and PN_LOCAL_ESC
  Named : (d : ℕ) → is_escaped d || is_local_escaped d ≡ true → escape ≡ codes "\\" ++ d ∷ []
      → c ≡ escaped_char d → StandsFor escape c

-- one character of what is meant: an escape, or a character other than the backslash for itself
pub data Means (piece : List ℕ) (c : ℕ) : Type 0 where
  Itself : (c ≡ 92 → ⊥) → piece ≡ c ∷ [] → Means piece c
  Escape : StandsFor piece c → Means piece c

-- characters and escapes, and the text that they stand for
abbrev pub Unescapes : List ℕ → List ℕ → Type 0
Unescapes cs [] = cs ≡ []
Unescapes cs (meant ∷ rest) =
    (piece behind : List ℕ) × (cs ≡ piece ++ behind) × Means piece meant × Unescapes behind rest

-- ---- the same as a function, so that definitions compute; that it is the relation is a law

-- the character of a number, U+FFFD where there is none, which no terminal has
abbrev pub char_of : ℕ → ℕ
char_of n = if nat_lt n 55296 || between 57344 1114111 n then n else 65533

-- by what stands behind a backslash, the number of the character that is meant
abbrev pub escape_number : List ℕ → ℕ
escape_number [] = 92
escape_number (c ∷ cs) =
    if c == 117 then number_of (take 4 cs) else if c == 85 then number_of (take 8 cs) else escaped_char c

-- by what stands behind a backslash, how many characters belong to the escape
abbrev pub escape_length : List ℕ → ℕ
escape_length [] = 0
escape_length (c ∷ cs) = if c == 117 then 5 else if c == 85 then 9 else 1

-- what characters stand for, where so many at the front are left of an escape that is undone already
abbrev pub undone_behind : ℕ → List ℕ → List ℕ
undone_behind left [] = []
undone_behind zero (c ∷ cs) =
    if c == 92 then (char_of (escape_number cs) ∷ undone_behind (escape_length cs) cs)
    else (c ∷ undone_behind zero cs)
undone_behind (suc left) (c ∷ cs) = undone_behind left cs

-- characters with their escapes undone
abbrev pub undone : List ℕ → List ℕ
undone cs = undone_behind zero cs

-- ---- tokens

-- the token was given for the text
abbrev pub IsGiven : List ℕ → Token → Type 0
IsGiven text token = (at : ℕ) × IsTokenAt text at token

-- the text of a token
abbrev pub token_text : List ℕ → Token → List ℕ
token_text text token = take (token.end - token.start) (drop token.start text)

-- what a token stands for
abbrev pub meaning : List ℕ → Token → List ℕ
meaning text token = undone (content token.kind (chars (token_text text token)))
