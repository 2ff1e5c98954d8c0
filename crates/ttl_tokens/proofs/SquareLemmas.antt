-- `[` and ANON.
use Rattle.std.proofs.Common.{◌≡◌, ℕ, Bool, true, false, ◌==◌, List, [], ◌∷◌, length, refl, sym, ap}
use Rattle.std.proofs.Common.{◌<◌, ◌≤◌, ◌⊎◌, inl, inr, arith, subst, true≢false}
use Rattle.std.proofs.lemmas.Bool.Decides.{nat_tests}
use Rattle.ttl_tokens.specs.declared.group.Group.{Group}
use Rattle.ttl_tokens.specs.declared.group.Group.TheVariants.{Square}
use Rattle.ttl_tokens.specs.declared.token.TokenKind.{TokenKind}
use Rattle.ttl_tokens.specs.declared.token.TokenKind.TheVariants.{Anon, OpenSquare}
use Rattle.ttl_tokens.specs.Form.{Item}
use Rattle.ttl_tokens.specs.Walks.{Never, Only}
use Rattle.ttl_tokens.specs.Chars.{PastChar}
use Rattle.ttl_tokens.specs.Blanks.{blanks, SkipsBlanks}
use Rattle.ttl_tokens.specs.Tokens.{Stands, IsAnon}
use Rattle.ttl_tokens.specs.inner.Groups.{kind_group, IsTokenOf, IsNoTokenOf}
use Rattle.ttl_tokens.proofs.CharLemmas.{takes_le, past_exactly}
use Rattle.ttl_tokens.proofs.RestLemmas.{longest_one}

abbrev tail : List ℕ → List ℕ
tail [] = []
tail (x ∷ xs) = xs

is_itself : (n : ℕ) → (n == n) ≡ true
is_itself n = grind (arith, nat_tests)

-- what ANON skips behind its `[`
anon_skips : {inside zs : List ℕ} → IsAnon (91 ∷ inside) zs → SkipsBlanks inside (93 ∷ zs)
anon_skips {zs = zs} t = subst (λ v. SkipsBlanks v (93 ∷ zs)) (sym (ap tail t.1)) t.2

abbrev is_square : Group → Bool
is_square Square = true
is_square group = false

-- the kinds of the group
square_kinds : (P : TokenKind → Type 0) → P Anon → P OpenSquare → (k : TokenKind) → kind_group k ≡ Square
    → P k
square_kinds P anon open_square Anon e = anon
square_kinds P anon open_square OpenSquare e = open_square
square_kinds P anon open_square k e = absurd (true≢false (sym (ap is_square e)))

pub anon_found : (inside ms ys : List ℕ) → SkipsBlanks inside ms
    → Only PastChar (Item (λ c. c == 93)) ms ys → IsTokenOf Square (91 ∷ inside) Anon ys
anon_found inside ms ys skips o = record {
  stands = (inside, refl, closed);
  longest = λ k zs e s. square_kinds
      (λ k. Stands k (91 ∷ inside) zs → ((k ≡ Anon) × (zs ≡ ys)) ⊎ (length ys < length zs))
      anon open_square k e s;
}
  where
    closed : SkipsBlanks inside (93 ∷ ys)
    closed = subst (λ v. SkipsBlanks inside v) (past_exactly 93 ms ys o.takes) skips

    anon : {zs : List ℕ} → IsAnon (91 ∷ inside) zs → ((Anon ≡ Anon) × (zs ≡ ys)) ⊎ (length ys < length zs)
    anon {zs = zs} t = inl (refl, ap tail (longest_one (anon_skips t) closed))

    open_square : {zs : List ℕ} → Stands OpenSquare (91 ∷ inside) zs
        → ((OpenSquare ≡ Anon) × (zs ≡ ys)) ⊎ (length ys < length zs)
    open_square {zs = zs} t =
        let shorter : length (93 ∷ ys) ≤ length inside = takes_le blanks inside (93 ∷ ys) closed.takes in
        let rest : length inside ≡ length zs = ap length t.1 in
        inr (omega (arith, shorter, rest))

pub square_found : (inside ms : List ℕ) → SkipsBlanks inside ms → Never PastChar (Item (λ c. c == 93)) ms
    → IsTokenOf Square (91 ∷ inside) OpenSquare inside
square_found inside ms skips n = record {
  stands = (is_itself 91, refl);
  longest = λ k zs e s. square_kinds
      (λ k. Stands k (91 ∷ inside) zs → ((k ≡ OpenSquare) × (zs ≡ inside)) ⊎ (length inside < length zs))
      anon open_square k e s;
}
  where
    anon : {zs : List ℕ} → IsAnon (91 ∷ inside) zs
        → ((Anon ≡ OpenSquare) × (zs ≡ inside)) ⊎ (length inside < length zs)
    anon {zs = zs} t =
        let same : ms ≡ 93 ∷ zs = longest_one skips (anon_skips t) in
        absurd (n.none zs (subst (λ v. PastChar (λ c. c == 93) v zs) (sym same) (is_itself 93, refl)))

    open_square : {zs : List ℕ} → Stands OpenSquare (91 ∷ inside) zs
        → ((OpenSquare ≡ OpenSquare) × (zs ≡ inside)) ⊎ (length inside < length zs)
    open_square {zs = zs} t = inl (refl, sym t.1)

pub no_square : (xs : List ℕ) → Never PastChar (Item (λ c. c == 91)) xs → IsNoTokenOf Square xs
no_square xs n = record {
  none = λ k zs e s. square_kinds (λ k. Stands k xs zs → ⊥) anon (λ t. n.none zs t) k e s;
}
  where
    anon : {zs : List ℕ} → IsAnon xs zs → ⊥
    anon {zs = zs} t =
        n.none t.0 (subst (λ v. PastChar (λ c. c == 91) v t.0) (sym t.1) (is_itself 91, refl))
