-- The terminals of Turtle, each under its name in the grammar (Turtle 1.1, section 6.5).
use Rattle.std.specs.Prelude.{ℕ, Bool, false, ◌&&◌, ◌||◌, not, ◌==◌, nat_le, codes}
use Rattle.ttl_tokens.specs.declared.token.TokenKind.{TokenKind}
use Rattle.ttl_tokens.specs.declared.token.TokenKind.TheVariants.{IriRef, PnameNs, PnameLn, BlankLabel}
use Rattle.ttl_tokens.specs.declared.token.TokenKind.TheVariants.{LangTag, Integer, Decimal, Double, Anon}
use Rattle.ttl_tokens.specs.declared.token.TokenKind.TheVariants.{StringQuote, StringSingleQuote}
use Rattle.ttl_tokens.specs.declared.token.TokenKind.TheVariants.{StringLongSingleQuote, StringLongQuote}
use Rattle.ttl_tokens.specs.declared.token.TokenKind.TheVariants.{WordA, WordTrue, WordFalse, WordPrefix}
use Rattle.ttl_tokens.specs.declared.token.TokenKind.TheVariants.{WordBase, Carets, Dot, Semicolon, Comma}
use Rattle.ttl_tokens.specs.declared.token.TokenKind.TheVariants.{OpenSquare, CloseSquare, OpenRound}
use Rattle.ttl_tokens.specs.declared.token.TokenKind.TheVariants.{CloseRound, End}
use Rattle.ttl_tokens.specs.Form.{Item, Then, Or, Maybe, Many}
use Rattle.ttl_tokens.specs.Chars.{Chars, exactly, word, any_case, some, dotted, between, is_digit}
use Rattle.ttl_tokens.specs.Chars.{is_letter, is_letter_or_digit, is_hex, is_name_start}
use Rattle.ttl_tokens.specs.Chars.{is_name_start_or_line, is_name_char}

-- ---- escapes

abbrev pub hex : Chars
hex = Item is_hex

abbrev pub is_d : ℕ → Bool
is_d c = (c == 68) || (c == 100)

abbrev pub hex_2 : Chars
hex_2 = Then hex hex

abbrev pub hex_3 : Chars
hex_3 = Then hex hex_2

abbrev pub hex_4 : Chars
hex_4 = Then hex hex_3

-- HEX HEX HEX HEX, but not D800 to DFFF, which are no scalar values
abbrev pub four_digits : Chars
four_digits =
    Or (Then (Item (λ c. is_hex c && not (is_d c))) hex_3)
    (Then (Item is_d) (Then (Item (between 48 55)) hex_2))

-- eight digits of a scalar value, which is at most 0010FFFF
abbrev pub eight_digits : Chars
eight_digits =
    Or (Then (word (codes "0000")) four_digits)
    (Or (Then (word (codes "000")) (Then (Item (λ c. is_hex c && not (c == 48))) hex_4))
    (Then (word (codes "0010")) hex_4))

-- UCHAR
abbrev pub uchar : Chars
uchar = Or (Then (word (codes "\\u")) four_digits) (Then (word (codes "\\U")) eight_digits)

-- t, b, n, r, f, the quotes and the backslash
abbrev pub is_escaped : ℕ → Bool
is_escaped c =
    (c == 116) || (c == 98) || (c == 110) || (c == 114) || (c == 102) || (c == 34) || (c == 39) || (c == 92)

-- ECHAR
abbrev pub echar : Chars
echar = Then (word (codes "\\")) (Item is_escaped)

-- ---- IRIs

-- none of #x00-#x20 < > " { } | ^ ` and the backslash
abbrev pub is_iri_char : ℕ → Bool
is_iri_char c =
    nat_le 33 c && not ((c == 60) || (c == 62) || (c == 34) || (c == 123) || (c == 125) || (c == 124)
    || (c == 94) || (c == 96) || (c == 92))

-- IRIREF
abbrev pub iri_ref : Chars
iri_ref = Then (word (codes "<")) (Then (Many (Or (Item is_iri_char) uchar)) (word (codes ">")))

-- ---- names

-- PN_PREFIX
abbrev pub pn_prefix : Chars
pn_prefix = Then (Item is_name_start) (dotted (Item is_name_char) (word (codes ".")))

-- PNAME_NS
abbrev pub pname_ns : Chars
pname_ns = Then (Maybe pn_prefix) (word (codes ":"))

-- PN_LOCAL_ESC, behind its backslash
abbrev pub is_local_escaped : ℕ → Bool
is_local_escaped c =
    (c == 95) || (c == 126) || (c == 46) || (c == 45) || (c == 33) || (c == 36) || between 38 44 c
    || (c == 59) || (c == 61) || (c == 47) || (c == 63) || (c == 35) || (c == 64) || (c == 37)

-- PLX
abbrev pub plx : Chars
plx =
    Or (Then (word (codes "%")) hex_2) (Then (word (codes "\\")) (Item is_local_escaped))

-- PN_LOCAL
abbrev pub pn_local : Chars
pn_local =
    Then (Or (Item (λ c. is_name_start_or_line c || (c == 58) || is_digit c)) plx)
    (dotted (Or (Item (λ c. is_name_char c || (c == 58))) plx) (word (codes ".")))

-- PNAME_LN
abbrev pub pname_ln : Chars
pname_ln = Then pname_ns pn_local

-- BLANK_NODE_LABEL
abbrev pub blank_label : Chars
blank_label =
    Then (word (codes "_:")) (Then (Item (λ c. is_name_start_or_line c || is_digit c))
    (dotted (Item is_name_char) (word (codes "."))))

-- LANGTAG
abbrev pub lang_tag : Chars
lang_tag =
    Then (word (codes "@")) (Then (some (Item is_letter))
    (Many (Then (word (codes "-")) (some (Item is_letter_or_digit)))))

-- ---- numbers

-- [+-]?
abbrev pub sign : Chars
sign = Maybe (Item (λ c. (c == 43) || (c == 45)))

-- [0-9]*
abbrev pub digits : Chars
digits = Many (Item is_digit)

-- [0-9]+
abbrev pub some_digits : Chars
some_digits = some (Item is_digit)

abbrev pub point : Chars
point = word (codes ".")

-- INTEGER
abbrev pub integer : Chars
integer = Then sign some_digits

-- DECIMAL
abbrev pub decimal : Chars
decimal = Then sign (Then digits (Then point some_digits))

-- EXPONENT
abbrev pub exponent : Chars
exponent = Then (Item (λ c. (c == 69) || (c == 101))) (Then sign some_digits)

-- DOUBLE
abbrev pub double : Chars
double =
    Then sign (Or (Then some_digits (Then point (Then digits exponent)))
    (Or (Then point (Then some_digits exponent)) (Then some_digits exponent)))

-- ---- strings; q is the quote, 34 or 39

abbrev pub three_quotes : ℕ → Chars
three_quotes q = Then (exactly q) (Then (exactly q) (exactly q))

-- a character of a short string: none of the quote, the backslash and the ends of lines, or an escape
abbrev pub short_char : ℕ → Chars
short_char q = Or (Item (λ c. not ((c == q) || (c == 92) || (c == 10) || (c == 13)))) (Or echar uchar)

-- STRING_LITERAL_QUOTE and STRING_LITERAL_SINGLE_QUOTE
abbrev pub short_string : ℕ → Chars
short_string q = Then (exactly q) (Then (Many (short_char q)) (exactly q))

-- a character of a long string: none of the quote and the backslash, or an escape
abbrev pub long_char : ℕ → Chars
long_char q = Or (Item (λ c. not ((c == q) || (c == 92)))) (Or echar uchar)

-- none, one or two
abbrev pub up_to_2_quotes : ℕ → Chars
up_to_2_quotes q = Maybe (Or (exactly q) (Then (exactly q) (exactly q)))

-- up to two quotes and a character
abbrev pub block : ℕ → Chars
block q = Then (up_to_2_quotes q) (long_char q)

-- STRING_LITERAL_LONG_QUOTE and STRING_LITERAL_LONG_SINGLE_QUOTE
abbrev pub long_string : ℕ → Chars
long_string q = Then (three_quotes q) (Then (Many (block q)) (three_quotes q))

-- ---- all of them

-- no form: it takes nothing
abbrev pub none : Chars
none = Item (λ c. false)

-- the form of a terminal; ANON has none, since it may hold comments
abbrev pub terminal : TokenKind → Chars
terminal IriRef = iri_ref
terminal PnameNs = pname_ns
terminal PnameLn = pname_ln
terminal BlankLabel = blank_label
terminal LangTag = lang_tag
terminal Integer = integer
terminal Decimal = decimal
terminal Double = double
terminal StringQuote = short_string 34
terminal StringSingleQuote = short_string 39
terminal StringLongSingleQuote = long_string 39
terminal StringLongQuote = long_string 34
terminal Anon = none
terminal WordA = word (codes "a")
terminal WordTrue = word (codes "true")
terminal WordFalse = word (codes "false")
terminal WordPrefix = any_case (codes "prefix")
terminal WordBase = any_case (codes "base")
terminal Carets = word (codes "^^")
terminal Dot = word (codes ".")
terminal Semicolon = word (codes ";")
terminal Comma = word (codes ",")
terminal OpenSquare = word (codes "[")
terminal CloseSquare = word (codes "]")
terminal OpenRound = word (codes "(")
terminal CloseRound = word (codes ")")
terminal End = none
