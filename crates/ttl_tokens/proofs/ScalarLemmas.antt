-- The digits of an escape write the number of a character: a scalar value.
use Rattle.std.proofs.Common.{◌≡◌, ℕ, suc, ◌+◌, ◌*◌, ◌<◌, ◌≤◌, true, ◌&&◌, not, ◌==◌, List, [], ◌∷◌, ◌++◌}
use Rattle.std.proofs.Common.{length, refl, ap, ◌∙◌, ◌⊎◌, inl, inr, arith}
use Rattle.std.proofs.lemmas.Bool.{cases_order}
use Rattle.std.proofs.lemmas.Bool.Decides.{nat_tests}
use Rattle.std.specs.Prelude.{codes}
use Rattle.ttl_tokens.specs.Form.{Takes}
use Rattle.ttl_tokens.specs.Chars.{PastChar, between, is_hex}
use Rattle.ttl_tokens.specs.Terminals.{hex_2, hex_3, hex_4, is_d, four_digits, eight_digits}
use Rattle.ttl_tokens.specs.Unescaped.{digit_number, number_of, char_of}
use Rattle.ttl_tokens.proofs.CharLemmas.{past_item, past_word}
use Rattle.ttl_tokens.proofs.DigitLemmas.{digit_small}

-- so many digits before ys, of the number of a character
pub record IsWritten (k : ℕ) (xs ys : List ℕ) : Type 0 where
  pub digits : List ℕ
  pub parts : xs ≡ digits ++ ys
  pub long : length digits ≡ k
  pub scalar : char_of (number_of digits) ≡ number_of digits

two : (xs ys : List ℕ) → Takes PastChar hex_2 xs ys → (a b : ℕ) × (xs ≡ a ∷ b ∷ ys)
two xs ys t =
    let a = past_item is_hex xs t.0 t.1 in
    let b = past_item is_hex t.0 ys t.2 in
    (a.0, b.0, a.1 ∙ ap (λ (l : List ℕ). a.0 ∷ l) b.1)

three : (xs ys : List ℕ) → Takes PastChar hex_3 xs ys → (a b c : ℕ) × (xs ≡ a ∷ b ∷ c ∷ ys)
three xs ys t =
    let a = past_item is_hex xs t.0 t.1 in
    let b = two t.0 ys t.2 in
    (a.0, b.0, b.1, a.1 ∙ ap (λ (l : List ℕ). a.0 ∷ l) b.2)

four : (xs ys : List ℕ) → Takes PastChar hex_4 xs ys → (a b c d : ℕ) × (xs ≡ a ∷ b ∷ c ∷ d ∷ ys)
four xs ys t =
    let a = past_item is_hex xs t.0 t.1 in
    let b = three t.0 ys t.2 in
    (a.0, b.0, b.1, b.2, a.1 ∙ ap (λ (l : List ℕ). a.0 ∷ l) b.3)

-- the number that four digits of these numbers write behind n
abbrev behind_number : ℕ → ℕ → ℕ → ℕ → ℕ → ℕ
behind_number n a b c d = 16 * (16 * (16 * (16 * n + a) + b) + c) + d

-- numbers of characters, below the surrogates and above them
below_scalar : (n : ℕ) → n < 55296 → char_of n ≡ n
below_scalar n less = grind (arith, nat_tests)

above_scalar : (n : ℕ) → 57344 ≤ n → n < 1114112 → char_of n ≡ n
above_scalar n above less = grind (arith, nat_tests)

-- four digits write no surrogate where the first is no D, or a number below 8 follows it
four_scalar : (a b c d : ℕ) → a < 16 → b < 16 → c < 16 → d < 16 → (a ≡ 13 → b < 8)
    → char_of (behind_number 0 a b c d) ≡ behind_number 0 a b c d
four_scalar a b c d first second third fourth below = go (cases_order a 13)
  where
    go : (a ≡ 13) ⊎ ((a < 13) ⊎ (13 < a)) → char_of (behind_number 0 a b c d) ≡ behind_number 0 a b c d
    go (inl e) =
        let few = below e in
        below_scalar (behind_number 0 a b c d) (omega (arith, e, few, third, fourth))
    go (inr (inl less)) = below_scalar (behind_number 0 a b c d) (omega (arith, less, second, third, fourth))
    go (inr (inr more)) =
        above_scalar (behind_number 0 a b c d) (omega (arith, more))
        (omega (arith, first, second, third, fourth))

-- on the planes 1 to 16
plane_scalar : (n a b c d : ℕ) → 0 < n → n < 17 → a < 16 → b < 16 → c < 16 → d < 16
    → char_of (behind_number n a b c d) ≡ behind_number n a b c d
plane_scalar n a b c d some few first second third fourth =
    above_scalar (behind_number n a b c d)
    (omega (arith, some)) (omega (arith, few, first, second, third, fourth))

no_d : (c : ℕ) → (is_hex c && not (is_d c)) ≡ true → digit_number c ≡ 13 → ⊥
no_d c h e = grind (arith, nat_tests)

octal_small : (c : ℕ) → between 48 55 c ≡ true → digit_number c < 8
octal_small c h = grind (arith, nat_tests)

no_zero : (c : ℕ) → (is_hex c && not (c == 48)) ≡ true → 0 < 0 + digit_number c
no_zero c h = grind (arith, nat_tests)

pub four_written : (xs ys : List ℕ) → Takes PastChar four_digits xs ys → IsWritten 4 xs ys
four_written xs ys (inl t) =
    let a = past_item (λ c. is_hex c && not (is_d c)) xs t.0 t.1 in
    let b = three t.0 ys t.2 in
    record {
      digits = a.0 ∷ b.0 ∷ b.1 ∷ b.2 ∷ [];
      parts = a.1 ∙ ap (λ (l : List ℕ). a.0 ∷ l) b.3;
      long = refl;
      scalar =
          four_scalar _ _ _ _ (digit_small a.0) (digit_small b.0) (digit_small b.1) (digit_small b.2)
          (λ e. absurd (no_d a.0 a.2 e));
    }
four_written xs ys (inr t) =
    let a = past_item is_d xs t.0 t.1 in
    let b = past_item (between 48 55) t.0 t.2.0 t.2.1 in
    let c = two t.2.0 ys t.2.2 in
    record {
      digits = a.0 ∷ b.0 ∷ c.0 ∷ c.1 ∷ [];
      parts = a.1 ∙ ap (λ (l : List ℕ). a.0 ∷ l) (b.1 ∙ ap (λ (l : List ℕ). b.0 ∷ l) c.2);
      long = refl;
      scalar =
          four_scalar _ _ _ _ (digit_small a.0) (digit_small b.0) (digit_small c.0) (digit_small c.1)
          (λ e. octal_small b.0 b.2);
    }

pub eight_written : (xs ys : List ℕ) → Takes PastChar eight_digits xs ys → IsWritten 8 xs ys
eight_written xs ys (inl t) =
    let w = four_written t.0 ys t.2 in
    record {
      digits = codes "0000" ++ w.digits;
      parts = past_word (codes "0000") xs t.0 t.1 ∙ ap (λ (l : List ℕ). codes "0000" ++ l) w.parts;
      long = ap (λ (n : ℕ). suc (suc (suc (suc n)))) w.long;
      scalar = w.scalar;
    }
eight_written xs ys (inr (inl t)) =
    let a = past_item (λ c. is_hex c && not (c == 48)) t.0 t.2.0 t.2.1 in
    let b = four t.2.0 ys t.2.2 in
    record {
      digits = codes "000" ++ (a.0 ∷ b.0 ∷ b.1 ∷ b.2 ∷ b.3 ∷ []);
      parts =
          past_word (codes "000") xs t.0 t.1
          ∙ ap (λ (l : List ℕ). codes "000" ++ l) (a.1 ∙ ap (λ (l : List ℕ). a.0 ∷ l) b.4);
      long = refl;
      scalar =
          plane_scalar (0 + digit_number a.0) _ _ _ _ (no_zero a.0 a.2) (omega (arith, digit_small a.0))
          (digit_small b.0) (digit_small b.1) (digit_small b.2) (digit_small b.3);
    }
eight_written xs ys (inr (inr t)) =
    let b = four t.0 ys t.2 in
    record {
      digits = codes "0010" ++ (b.0 ∷ b.1 ∷ b.2 ∷ b.3 ∷ []);
      parts = past_word (codes "0010") xs t.0 t.1 ∙ ap (λ (l : List ℕ). codes "0010" ++ l) b.4;
      long = refl;
      scalar =
          plane_scalar 16 _ _ _ _ (omega arith) (omega arith) (digit_small b.0) (digit_small b.1)
          (digit_small b.2) (digit_small b.3);
    }
