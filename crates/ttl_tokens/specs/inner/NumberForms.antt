-- What is left of each kind of number inside a number.
use Rattle.std.specs.Prelude.{◌≡◌, ℕ, ◌<◌, ◌⊎◌, Bool, ◌||◌, ◌==◌, List, length}
use Rattle.ttl_tokens.specs.declared.token.TokenKind.{TokenKind}
use Rattle.ttl_tokens.specs.declared.token.TokenKind.TheVariants.{Integer, Decimal, Double}
use Rattle.ttl_tokens.specs.Form.{Takes, Then, Or}
use Rattle.ttl_tokens.specs.Chars.{Chars, PastChar}
use Rattle.ttl_tokens.specs.Terminals.{none, point, digits, some_digits, exponent}

abbrev pub is_sign : ℕ → Bool
is_sign c = (c == 43) || (c == 45)

abbrev pub is_letter_e : ℕ → Bool
is_letter_e c = (c == 69) || (c == 101)

-- '.' [0-9]+
abbrev pub fraction : Chars
fraction = Then point some_digits

-- '.' [0-9]+ EXPONENT
abbrev pub fraction_exponent : Chars
fraction_exponent = Then point (Then some_digits exponent)

-- what a double has behind its first digits
abbrev pub double_behind_digits : Chars
double_behind_digits = Or (Then point (Then digits exponent)) exponent

-- a form for each kind of number
abbrev pub number_form : Chars → Chars → Chars → TokenKind → Chars
number_form i d e Integer = i
number_form i d e Decimal = d
number_form i d e Double = e
number_form i d e kind = none

-- of the forms for an integer, a decimal and a double, this kind's takes a longer front than any other,
-- or than itself in another way
pub record IsNumberOf (i d e : Chars) (xs : List ℕ) (kind : TokenKind) (ys : List ℕ) : Type 0 where
  pub takes : Takes PastChar (number_form i d e kind) xs ys
  pub longest : (k : TokenKind) (zs : List ℕ) → Takes PastChar (number_form i d e k) xs zs
      → ((k ≡ kind) × (zs ≡ ys)) ⊎ (length ys < length zs)
