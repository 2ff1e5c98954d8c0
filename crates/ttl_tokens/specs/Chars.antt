-- Forms over characters, and the classes of characters that Turtle names (Turtle 1.1, section 6.5).
use Rattle.std.specs.Prelude.{◌≡◌, ℕ, ◌+◌, ◌≤◌, Bool, true, ◌&&◌, ◌||◌, ◌==◌, nat_le, List, [], ◌∷◌, length}
use Rattle.ttl_tokens.specs.Form.{Form, Empty, Item, Then, Or, Maybe, Many, Takes}

-- a form over characters: its items are tests of code points
abbrev pub Chars : Type 0
Chars = Form (ℕ → Bool)

-- a test leads past the first character where it holds of it
abbrev pub PastChar : (ℕ → Bool) → List ℕ → List ℕ → Type 0
PastChar p [] ys = ⊥
PastChar p (c ∷ cs) ys = (p c ≡ true) × (cs ≡ ys)

-- of the fronts that the form takes, the longest leaves ys
pub record Longest (f : Chars) (xs ys : List ℕ) : Type 0 where
  pub takes : Takes PastChar f xs ys
  pub longest : (zs : List ℕ) → Takes PastChar f xs zs → length ys ≤ length zs

-- ---- forms

-- this character
abbrev pub exactly : ℕ → Chars
exactly c = Item (λ d. d == c)

-- this text, as written
abbrev pub word : List ℕ → Chars
word [] = Empty
word (c ∷ []) = exactly c
word (c ∷ d ∷ cs) = Then (exactly c) (word (d ∷ cs))

-- this small letter or its capital
abbrev pub either_case : ℕ → Chars
either_case c = Item (λ d. (d == c) || (d + 32 == c))

-- the word of these small letters, in any case
abbrev pub any_case : List ℕ → Chars
any_case [] = Empty
any_case (c ∷ []) = either_case c
any_case (c ∷ d ∷ cs) = Then (either_case c) (any_case (d ∷ cs))

-- f+
abbrev pub some : Chars → Chars
some f = Then f (Many f)

-- ((last | dot)* last)?
abbrev pub dotted : Chars → Chars → Chars
dotted last dot = Maybe (Then (Many (Or last dot)) last)

-- ---- classes

abbrev pub between : ℕ → ℕ → ℕ → Bool
between low high c = nat_le low c && nat_le c high

abbrev pub is_digit : ℕ → Bool
is_digit c = between 48 57 c

abbrev pub is_letter : ℕ → Bool
is_letter c = between 65 90 c || between 97 122 c

abbrev pub is_letter_or_digit : ℕ → Bool
is_letter_or_digit c = is_letter c || is_digit c

-- HEX
abbrev pub is_hex : ℕ → Bool
is_hex c = is_digit c || between 65 70 c || between 97 102 c

-- WS
abbrev pub is_white : ℕ → Bool
is_white c = (c == 32) || (c == 9) || (c == 13) || (c == 10)

abbrev pub is_line_end : ℕ → Bool
is_line_end c = (c == 13) || (c == 10)

-- PN_CHARS_BASE, up to and from U+2070
abbrev pub is_low_name_start : ℕ → Bool
is_low_name_start c =
    between 0xC0 0xD6 c || between 0xD8 0xF6 c || between 0xF8 0x2FF c || between 0x370 0x37D c
    || between 0x37F 0x1FFF c || between 0x200C 0x200D c

abbrev pub is_high_name_start : ℕ → Bool
is_high_name_start c =
    between 0x2070 0x218F c || between 0x2C00 0x2FEF c || between 0x3001 0xD7FF c || between 0xF900 0xFDCF c
    || between 0xFDF0 0xFFFD c || between 0x10000 0xEFFFF c

-- PN_CHARS_BASE
abbrev pub is_name_start : ℕ → Bool
is_name_start c = is_letter c || is_low_name_start c || is_high_name_start c

-- PN_CHARS_U
abbrev pub is_name_start_or_line : ℕ → Bool
is_name_start_or_line c = is_name_start c || (c == 95)

-- PN_CHARS
abbrev pub is_name_char : ℕ → Bool
is_name_char c =
    is_name_start_or_line c || (c == 45) || is_digit c || (c == 0xB7) || between 0x300 0x36F c
    || between 0x203F 0x2040 c
