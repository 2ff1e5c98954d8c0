-- The number that hexadecimal digits write.
use Rattle.std.proofs.Common.{◌≡◌, ℕ, zero, suc, ◌+◌, ◌*◌, ◌≤◌, ◌<◌, List, [], ◌∷◌, ◌++◌, length, refl}
use Rattle.std.proofs.Common.{ap, ◌∙◌, sym, arith, add-one}
use Rattle.std.proofs.Math.ListN.{take, drop}
use Rattle.std.proofs.lemmas.List.{length-take}
use Rattle.std.proofs.lemmas.List.Sums.{fold_push}
use Rattle.std.proofs.lemmas.Bool.Decides.{nat_tests}
use Rattle.std.proofs.Math.Nat.{pow-succ'}
use Rattle.std.specs.Prelude.{◌^◌, fold}
use Rattle.ttl_tokens.specs.Unescaped.{digit_number, number_of}

pub digit_small : (c : ℕ) → digit_number c < 16
digit_small c = grind (arith, nat_tests)

small_from : (left : ℕ) (ds : List ℕ) (n b : ℕ) → length ds ≤ left → n < b
    → fold (λ n c. 16 * n + digit_number c) n ds < b * 16 ^ left
small_from zero [] n b few small = omega (arith, small)
small_from zero (d ∷ ds) n b few small = absurd (omega (arith, few))
small_from (suc left) [] n b few small =
    let more = small_from left [] n (16 * b) (omega arith) (omega (arith, small)) in
    rw (pow-succ' 16 left) (omega (arith, more))
small_from (suc left) (d ∷ ds) n b few small =
    let digit = digit_small d in
    let more = small_from left ds (16 * n + digit_number d) (16 * b) (omega (arith, few))
    (omega (arith, small, digit)) in
    rw (pow-succ' 16 left) (omega (arith, more))

-- past the next of some characters, or at their end
past_next : (at : ℕ) (cs rest : List ℕ) (c : ℕ) → drop at cs ≡ c ∷ rest
    → (take (suc at) cs ≡ take at cs ++ c ∷ []) × (drop (suc at) cs ≡ rest)
past_next zero cs rest c e = (rw e refl, rw e refl)
past_next (suc at) [] rest c e = absurd (cc)
past_next (suc at) (x ∷ cs) rest c e =
    let more = past_next at cs rest c e in
    (ap (λ (l : List ℕ). x ∷ l) more.0, more.1)

past_end : (at : ℕ) (cs : List ℕ) → drop at cs ≡ []
    → (take (suc at) cs ≡ take at cs) × (drop (suc at) cs ≡ [])
past_end zero cs e = (rw e refl, rw e refl)
past_end (suc at) [] e = (refl, refl)
past_end (suc at) (x ∷ cs) e =
    let more = past_end at cs e in
    (ap (λ (l : List ℕ). x ∷ l) more.0, more.1)

-- so many characters were read, and this is left
pub record ReadsDigits (cs : List ℕ) (at n : ℕ) (rest : List ℕ) : Type 0 where
  pub writes : n ≡ number_of (take at cs)
  pub leaves : rest ≡ drop at cs

pub read_digit : (cs : List ℕ) (at n c : ℕ) (rest behind : List ℕ) → ReadsDigits cs at n rest
    → rest ≡ c ∷ behind → ReadsDigits cs (at + 1) (16 * n + digit_number c) behind
read_digit cs at n c rest behind r e =
    let next = past_next at cs behind c (sym r.leaves ∙ e) in
    rw add-one (record {
      writes =
          rw (next.0, r.writes)
          (sym (fold_push (λ n c. 16 * n + digit_number c) 0 (take at cs) c));
      leaves = sym next.1;
    })

pub read_no_digit : (cs : List ℕ) (at n : ℕ) (rest : List ℕ) → ReadsDigits cs at n rest → rest ≡ []
    → ReadsDigits cs (at + 1) n rest
read_no_digit cs at n rest r e =
    let next = past_end at cs (sym r.leaves ∙ e) in
    rw add-one (record { writes = rw next.0 r.writes; leaves = e ∙ sym next.1 })

-- what up to seven digits write
pub few_written : {cs rest : List ℕ} {at n : ℕ} → ReadsDigits cs at n rest → at < 8 → n < 268435456
few_written {cs = cs} {at = at} r few =
    let long = length-take at cs in
    rw (r.writes) (small_from 7 (take at cs) 0 1 (omega (arith, long, few)) (omega arith))
