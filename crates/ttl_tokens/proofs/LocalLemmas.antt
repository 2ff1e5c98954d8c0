-- Local names, character by character and escape by escape.
use Rattle.std.proofs.Common.{◌≡◌, ℕ, Bool, true, false, List, ◌∷◌, refl}
use Rattle.ttl_tokens.specs.Form.{Item, Then, Or}
use Rattle.ttl_tokens.specs.Walks.{Only, Same, Apart}
use Rattle.ttl_tokens.specs.Chars.{PastChar}
use Rattle.ttl_tokens.specs.Terminals.{hex, plx}
use Rattle.ttl_tokens.proofs.FormLemmas.{same_trans, then_same, left_same, right_same, then_never}
use Rattle.ttl_tokens.proofs.FormLemmas.{left_only}
use Rattle.ttl_tokens.proofs.CharLemmas.{apart_begins, char_never, char_only, other_char}

plain_apart : (p : ℕ → Bool) → p 37 ≡ false → p 92 ≡ false → Apart PastChar (Item p) plx
plain_apart p percent backslash =
    apart_begins (Item p) plx refl refl
    (λ c h. rw (other_char p c 37 percent h, other_char p c 92 backslash h) refl)

pub plain_only : (p : ℕ → Bool) (xs cs : List ℕ) (c : ℕ) → p 37 ≡ false → p 92 ≡ false → xs ≡ c ∷ cs
    → p c ≡ true → Only PastChar (Or (Item p) plx) xs cs
plain_only p xs cs c percent backslash e h = left_only (plain_apart p percent backslash) (char_only e h)

pub escape_same : (p : ℕ → Bool) (xs cs : List ℕ) (c : ℕ) → xs ≡ c ∷ cs → p c ≡ false
    → Same PastChar (Or (Item p) plx) xs plx xs
escape_same p xs cs c e h = right_same (char_never e h)

pub percent_same : (xs cs : List ℕ) (c : ℕ) → xs ≡ c ∷ cs → c ≡ 37 → Same PastChar plx xs (Then hex hex) cs
percent_same xs cs c e percent =
    same_trans (left_same (then_never (char_never e (rw percent refl))))
    (then_same (char_only e (rw percent refl)))
