-- The terminals in groups, by the character that they begin with: what the reader of tokens goes by.
use Rattle.std.specs.Prelude.{◌≡◌, ℕ, ◌<◌, ◌⊎◌, ◌||◌, ◌==◌, List, length, if◌then◌else◌, Option, Some, None}
use Rattle.ttl_tokens.specs.declared.group.Group.{Group}
use Rattle.ttl_tokens.specs.declared.group.Group.TheVariants.{Number, Name, DoubleQuoted, SingleQuoted}
use Rattle.ttl_tokens.specs.declared.group.Group.TheVariants.{Angle, At, Underscore, Caret, Square, Mark}
use Rattle.ttl_tokens.specs.declared.group.Group.TheVariants.{Other}
use Rattle.ttl_tokens.specs.declared.token.TokenKind.{TokenKind}
use Rattle.ttl_tokens.specs.declared.token.TokenKind.TheVariants.{IriRef, PnameNs, PnameLn, BlankLabel}
use Rattle.ttl_tokens.specs.declared.token.TokenKind.TheVariants.{LangTag, Integer, Decimal, Double, Anon}
use Rattle.ttl_tokens.specs.declared.token.TokenKind.TheVariants.{StringQuote, StringSingleQuote}
use Rattle.ttl_tokens.specs.declared.token.TokenKind.TheVariants.{StringLongSingleQuote, StringLongQuote}
use Rattle.ttl_tokens.specs.declared.token.TokenKind.TheVariants.{WordA, WordTrue, WordFalse, WordPrefix}
use Rattle.ttl_tokens.specs.declared.token.TokenKind.TheVariants.{WordBase, Carets, Dot, Semicolon, Comma}
use Rattle.ttl_tokens.specs.declared.token.TokenKind.TheVariants.{OpenSquare, CloseSquare, OpenRound}
use Rattle.ttl_tokens.specs.declared.token.TokenKind.TheVariants.{CloseRound, End}
use Rattle.ttl_tokens.specs.Chars.{is_digit, is_name_start}
use Rattle.ttl_tokens.specs.Tokens.{Stands}

abbrev pub char_group : ℕ → Group
char_group c =
    if is_digit c || (c == 43) || (c == 45) || (c == 46) then Number
    else if is_name_start c || (c == 58) then Name
    else if c == 34 then DoubleQuoted
    else if c == 39 then SingleQuoted
    else if c == 60 then Angle
    else if c == 64 then At
    else if c == 95 then Underscore
    else if c == 94 then Caret
    else if c == 91 then Square
    else if (c == 59) || (c == 44) || (c == 93) || (c == 40) || (c == 41) then Mark
    else Other

abbrev pub kind_group : TokenKind → Group
kind_group IriRef = Angle
kind_group PnameNs = Name
kind_group PnameLn = Name
kind_group BlankLabel = Underscore
kind_group LangTag = At
kind_group Integer = Number
kind_group Decimal = Number
kind_group Double = Number
kind_group StringQuote = DoubleQuoted
kind_group StringSingleQuote = SingleQuoted
kind_group StringLongSingleQuote = SingleQuoted
kind_group StringLongQuote = DoubleQuoted
kind_group Anon = Square
kind_group WordA = Name
kind_group WordTrue = Name
kind_group WordFalse = Name
kind_group WordPrefix = Name
kind_group WordBase = Name
kind_group Carets = Caret
kind_group Dot = Number
kind_group Semicolon = Mark
kind_group Comma = Mark
kind_group OpenSquare = Square
kind_group CloseSquare = Mark
kind_group OpenRound = Mark
kind_group CloseRound = Mark
kind_group End = Other

-- among the terminals of the group it takes a longer front than any other, or than itself in another way
pub record IsTokenOf (group : Group) (xs : List ℕ) (kind : TokenKind) (ys : List ℕ) : Type 0 where
  pub stands : Stands kind xs ys
  pub longest : (k : TokenKind) (zs : List ℕ) → kind_group k ≡ group → Stands k xs zs
      → ((k ≡ kind) × (zs ≡ ys)) ⊎ (length ys < length zs)

-- no terminal of the group takes a front
pub record IsNoTokenOf (group : Group) (xs : List ℕ) : Type 0 where
  pub none : (k : TokenKind) (zs : List ℕ) → kind_group k ≡ group → Stands k xs zs → ⊥

-- the mark that is this character
abbrev pub mark_of : ℕ → Option TokenKind
mark_of c =
    if c == 59 then Some Semicolon
    else if c == 44 then Some Comma
    else if c == 93 then Some CloseSquare
    else if c == 40 then Some OpenRound
    else if c == 41 then Some CloseRound
    else None
