-- What is left of an escape behind its first characters.
use Rattle.std.proofs.Common.{◌≡◌, ℕ, ◌≤◌, Bool, true, false, ◌&&◌, ◌||◌, not, ◌==◌, List, ◌∷◌, refl, arith}
use Rattle.std.proofs.lemmas.Bool.Decides.{nat_tests}
use Rattle.std.specs.Prelude.{codes}
use Rattle.ttl_tokens.specs.Form.{Item, Or}
use Rattle.ttl_tokens.specs.Walks.{Never, Only, Same, Apart}
use Rattle.ttl_tokens.specs.Chars.{Chars, PastChar, word, between, is_hex}
use Rattle.ttl_tokens.specs.Terminals.{four_digits, eight_digits, uchar, echar, is_d, is_escaped, hex_2}
use Rattle.ttl_tokens.specs.Terminals.{hex_3, hex_4}
use Rattle.ttl_tokens.specs.inner.EscapeForms.{behind_2_zeros, behind_3_zeros, below_surrogates}
use Rattle.ttl_tokens.specs.inner.EscapeForms.{long_uchar_rest}
use Rattle.ttl_tokens.specs.inner.EscapeForms.{low_plane, plane_16, uchar_rest}
use Rattle.ttl_tokens.proofs.FormLemmas.{same_trans, same_only, then_same, then_never, or_never, left_same}
use Rattle.ttl_tokens.proofs.FormLemmas.{right_same, apart_never, or_same, past_two, past_two_never}
use Rattle.ttl_tokens.proofs.FormLemmas.{then_step}
use Rattle.ttl_tokens.proofs.CharLemmas.{apart_begins, char_never, char_only}

-- ---- four digits

hex_no_d : (c : ℕ) → is_d c ≡ true → (is_hex c && not (is_d c)) ≡ false
hex_no_d c d = grind (arith, nat_tests)

hex_but_d : (c : ℕ) → is_hex c ≡ true → is_d c ≡ false → (is_hex c && not (is_d c)) ≡ true
hex_but_d c h d = rw (h, d) refl

pub four_d : {xs cs : List ℕ} {c : ℕ} → xs ≡ c ∷ cs → is_d c ≡ true
    → Same PastChar four_digits xs below_surrogates cs
four_d {c = c} e d =
    same_trans (right_same (then_never (char_never e (hex_no_d c d)))) (then_same (char_only {p = is_d} e d))

pub four_hex : {xs cs : List ℕ} {c : ℕ} → xs ≡ c ∷ cs → is_hex c ≡ true → is_d c ≡ false
    → Same PastChar four_digits xs hex_3 cs
four_hex {c = c} e h d =
    same_trans (left_same (then_never (char_never {p = is_d} e d)))
    (then_same (char_only e (hex_but_d c h d)))

octal : (c : ℕ) → 48 ≤ c → c ≤ 55 → between 48 55 c ≡ true
octal c low high = grind (arith, nat_tests)

pub below_octal : {xs cs : List ℕ} {c : ℕ} → xs ≡ c ∷ cs → 48 ≤ c → c ≤ 55
    → Same PastChar below_surrogates xs hex_2 cs
below_octal {c = c} e low high = then_same (char_only {p = (between 48 55)} e (octal c low high))

-- ---- eight digits

low_hex : (c : ℕ) → (c ≡ 48 → ⊥) → is_hex c ≡ true → (is_hex c && not (c == 48)) ≡ true
low_hex c n h = grind (arith, nat_tests)

pub low_digit : {xs cs : List ℕ} {c : ℕ} → xs ≡ c ∷ cs → (c ≡ 48 → ⊥) → is_hex c ≡ true
    → Same PastChar low_plane xs hex_4 cs
low_digit {c = c} e n h = then_same (char_only e (low_hex c n h))

abbrev zero : Chars
zero = word (codes "0")

zero_low : Apart PastChar zero low_plane
zero_low = apart_begins zero low_plane refl refl (λ c h. other c h)
  where
    other : (c : ℕ) → (c == 48) ≡ true → ((is_hex c && not (c == 48)) || false) ≡ false
    other c h = grind (arith, nat_tests)

zero_16 : Apart PastChar zero plane_16
zero_16 = apart_begins zero plane_16 refl refl (λ c h. other c h)
  where
    other : (c : ℕ) → (c == 48) ≡ true → (((c == 49) || false) || false) ≡ false
    other c h = grind (arith, nat_tests)

pub zeros_3 : {xs ys : List ℕ} → Only PastChar zero xs ys → Same PastChar behind_3_zeros xs four_digits ys
zeros_3 o = same_trans (left_same (apart_never zero_low o)) (then_same o)

pub no_zero_3 : {xs : List ℕ} → Never PastChar zero xs → Same PastChar behind_3_zeros xs low_plane xs
no_zero_3 n = right_same (then_never n)

pub zeros_2 : {xs ys : List ℕ} → Only PastChar zero xs ys → Same PastChar behind_2_zeros xs behind_3_zeros ys
zeros_2 o = or_same (then_step o) (same_trans (left_same (apart_never zero_16 o)) (then_same o))

pub no_zero_2 : {xs : List ℕ} → Never PastChar zero xs → Same PastChar behind_2_zeros xs plane_16 xs
no_zero_2 n = same_trans (right_same (then_never (then_never n))) (right_same (then_never n))

pub eight_zeros : {xs ys : List ℕ} → Only PastChar (word (codes "00")) xs ys
    → Same PastChar eight_digits xs behind_2_zeros ys
eight_zeros o = or_same (past_two o) (or_same (past_two o) (past_two o))

pub eight_no_zeros : {xs : List ℕ} → Never PastChar (word (codes "00")) xs → Never PastChar eight_digits xs
eight_no_zeros n = or_never (past_two_never n) (or_never (past_two_never n) (past_two_never n))

-- ---- escapes

-- with what UCHAR begins, as it computes
abbrev pub begins_uchar : ℕ → Bool
begins_uchar c = (((c == 92) || false) || false) || (((c == 92) || false) || false)

abbrev backslash : Chars
backslash = word (codes "\\")

abbrev small_u : Chars
small_u = word (codes "u")

u_long : Apart PastChar small_u long_uchar_rest
u_long = apart_begins small_u long_uchar_rest refl refl (λ c h. other c h)
  where
    other : (c : ℕ) → (c == 117) ≡ true → ((c == 85) || false) ≡ false
    other c h = grind (arith, nat_tests)

pub rest_u : {xs ys : List ℕ} → Only PastChar small_u xs ys → Same PastChar uchar_rest xs four_digits ys
rest_u o = same_trans (left_same (apart_never u_long o)) (then_same o)

pub rest_no_u : {xs : List ℕ} → Never PastChar small_u xs → Same PastChar uchar_rest xs long_uchar_rest xs
rest_no_u n = right_same (then_never n)

pub uchar_backslash : {xs ys : List ℕ} → Only PastChar backslash xs ys → Same PastChar uchar xs uchar_rest ys
uchar_backslash o = or_same (then_step o) (then_step o)

pub uchar_no_backslash : {xs : List ℕ} → Never PastChar backslash xs → Never PastChar uchar xs
uchar_no_backslash n = or_never (then_never (then_never n)) (then_never (then_never n))

escaped_uchar : Apart PastChar (Item is_escaped) uchar_rest
escaped_uchar = apart_begins (Item is_escaped) uchar_rest refl refl (λ c h. other c h)
  where
    other : (c : ℕ) → is_escaped c ≡ true → (((c == 117) || false) || ((c == 85) || false)) ≡ false
    other c h = grind (arith, nat_tests)

escape_backslash : {xs ys : List ℕ} → Only PastChar backslash xs ys
    → Same PastChar (Or echar uchar) xs (Or (Item is_escaped) uchar_rest) ys
escape_backslash o = or_same (then_same o) (uchar_backslash o)

pub escape_escaped : {xs ys zs : List ℕ} → Only PastChar backslash xs ys
    → Only PastChar (Item is_escaped) ys zs → Only PastChar (Or echar uchar) xs zs
escape_escaped o e = same_only (same_trans (escape_backslash o) (left_same (apart_never escaped_uchar e))) e

pub escape_uchar : {xs ys : List ℕ} → Only PastChar backslash xs ys → Never PastChar (Item is_escaped) ys
    → Same PastChar (Or echar uchar) xs uchar_rest ys
escape_uchar o n = same_trans (escape_backslash o) (right_same n)

pub escape_no_backslash : {xs : List ℕ} → Never PastChar backslash xs → Never PastChar (Or echar uchar) xs
escape_no_backslash n = or_never (then_never n) (uchar_no_backslash n)
