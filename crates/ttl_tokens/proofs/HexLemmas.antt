-- The digits of an escape are hexadecimal.
use Rattle.std.proofs.Common.{◌≡◌, ℕ, Bool, true, ◌&&◌, not, ◌==◌, List, ◌++◌, refl, sym, ◌∙◌, subst, arith}
use Rattle.std.specs.List.{list_all}
use Rattle.std.proofs.lemmas.Bool.Decides.{nat_tests}
use Rattle.std.proofs.lemmas.List.{append_cancel_right}
use Rattle.std.proofs.lemmas.List.Folds.{list_all-append}
use Rattle.ttl_tokens.specs.Form.{Item, Then, Takes}
use Rattle.ttl_tokens.specs.Chars.{Chars, PastChar, between, exactly, is_hex}
use Rattle.ttl_tokens.specs.Terminals.{hex, hex_2, hex_3, hex_4, is_d, four_digits, eight_digits}
use Rattle.ttl_tokens.proofs.FrontLemmas.{TakesOnly, Joins, item_front, or_front, then_front}

abbrev AreHex : List ℕ → Type 0
AreHex digits = list_all is_hex digits ≡ true

hex_joins : Joins AreHex
hex_joins = record {
  nothing = refl;
  both = λ a b u v. list_all-append is_hex a b ∙ rw (u, v) refl;
}

-- an item that takes hexadecimal digits alone
hex_item : {p : ℕ → Bool} → ((c : ℕ) → p c ≡ true → is_hex c ≡ true) → TakesOnly AreHex (Item p)
hex_item may = item_front (λ c h. rw (may c h) refl)

any : TakesOnly AreHex hex
any = hex_item (λ c h. h)

two : TakesOnly AreHex hex_2
two = then_front hex_joins any any

three : TakesOnly AreHex hex_3
three = then_front hex_joins any two

four : TakesOnly AreHex hex_4
four = then_front hex_joins any three

zero_digit : TakesOnly AreHex (exactly 48)
zero_digit = hex_item (λ c h. grind (arith, nat_tests))

one_digit : TakesOnly AreHex (exactly 49)
one_digit = hex_item (λ c h. grind (arith, nat_tests))

no_d_is_hex : (c : ℕ) → (is_hex c && not (is_d c)) ≡ true → is_hex c ≡ true
no_d_is_hex c h = grind (arith, nat_tests)

d_is_hex : (c : ℕ) → is_d c ≡ true → is_hex c ≡ true
d_is_hex c h = grind (arith, nat_tests)

octal_is_hex : (c : ℕ) → between 48 55 c ≡ true → is_hex c ≡ true
octal_is_hex c h = grind (arith, nat_tests)

no_zero_is_hex : (c : ℕ) → (is_hex c && not (c == 48)) ≡ true → is_hex c ≡ true
no_zero_is_hex c h = grind (arith, nat_tests)

pub four_hex : TakesOnly AreHex four_digits
four_hex =
    or_front (then_front hex_joins (hex_item no_d_is_hex) three)
    (then_front hex_joins (hex_item d_is_hex) (then_front hex_joins (hex_item octal_is_hex) two))

pub eight_hex : TakesOnly AreHex eight_digits
eight_hex =
    or_front (then_front hex_joins (zeros (zeros (zeros zero_digit))) four_hex)
    (or_front
    (then_front hex_joins (zeros (zeros zero_digit)) (then_front hex_joins (hex_item no_zero_is_hex) four))
    (then_front hex_joins (zeros (zeros (then_front hex_joins one_digit zero_digit))) four))
  where
    zeros : {f : Chars} → TakesOnly AreHex f → TakesOnly AreHex (Then (exactly 48) f)
    zeros f = then_front hex_joins zero_digit f

-- what stands before ys are hexadecimal digits, where a form of these takes it
pub all_hex : {f : Chars} → TakesOnly AreHex f → (xs ys : List ℕ) → Takes PastChar f xs ys
    → (digits : List ℕ) → xs ≡ digits ++ ys → list_all is_hex digits ≡ true
all_hex only xs ys t digits parts =
    let front = only.front xs ys t in
    subst AreHex (append_cancel_right front.front digits ys (sym front.parts ∙ parts)) front.holds
