-- What characters and escapes stand for: one text, and how it is found from the front.
use Rattle.std.proofs.Common.{◌≡◌, ℕ, ◌||◌, ◌==◌, true, false, List, [], ◌∷◌, ◌++◌, refl}
use Rattle.std.proofs.Common.{sym, ap, ◌∙◌, subst, arith, append_assoc}
use Rattle.std.proofs.Math.ListN.{drop}
use Rattle.std.proofs.lemmas.Bool.Decides.{nat_tests}
use Rattle.std.proofs.lemmas.List.{take_at, drop_at}
use Rattle.ttl_tokens.specs.Terminals.{is_escaped, is_local_escaped}
use Rattle.ttl_tokens.specs.Unescaped.{number_of, StandsFor, Means, Unescapes}
use Rattle.ttl_tokens.specs.Unescaped.StandsFor.{Short, Long, Named}
use Rattle.ttl_tokens.specs.Unescaped.Means.{Itself, Escape}
use Rattle.ttl_tokens.specs.Unescaped.{escape_number, escape_length}

-- ---- one escape

-- behind its backslash an escape shows how long it is, and the number of what it stands for
pub record IsEscape (piece : List ℕ) (c : ℕ) : Type 0 where
  pub inside : List ℕ
  pub backslash : piece ≡ 92 ∷ inside
  pub number : (rest : List ℕ) → escape_number (inside ++ rest) ≡ c
  pub ends : (rest : List ℕ) → drop (escape_length (inside ++ rest)) (inside ++ rest) ≡ rest

pub named_other : (d : ℕ) → (is_escaped d || is_local_escaped d) ≡ true → (d == 117) ≡ false
named_other d h = grind (arith, nat_tests)

pub named_other_long : (d : ℕ) → (is_escaped d || is_local_escaped d) ≡ true → (d == 85) ≡ false
named_other_long d h = grind (arith, nat_tests)

pub is_escape : {piece : List ℕ} {c : ℕ} → StandsFor piece c → IsEscape piece c
is_escape (Short digits hex long e n) = record {
  inside = 117 ∷ digits;
  backslash = e;
  number = λ rest. ap number_of (take_at digits rest 4 long) ∙ sym n;
  ends = λ rest. drop_at digits rest 4 long;
}
is_escape (Long digits hex long e n) = record {
  inside = 85 ∷ digits;
  backslash = e;
  number = λ rest. ap number_of (take_at digits rest 8 long) ∙ sym n;
  ends = λ rest. drop_at digits rest 8 long;
}
is_escape (Named d may e n) = record {
  inside = d ∷ [];
  backslash = e;
  number = λ rest. rw (named_other d may, named_other_long d may) (sym n);
  ends = λ rest. rw (named_other d may, named_other_long d may) refl;
}

-- ---- one meaning

-- one character is meant at the front, and what is left is one
record SameMeant (c d : ℕ) (xs ys : List ℕ) : Type 0 where
  meant : c ≡ d
  left : xs ≡ ys

abbrev tail : List ℕ → List ℕ
tail [] = []
tail (c ∷ cs) = cs

means_same : {p q : List ℕ} {c d : ℕ} → Means p c → Means q d → (xs ys : List ℕ) → p ++ xs ≡ q ++ ys
    → SameMeant c d xs ys
means_same {c = c} {d = d} (Itself n e) (Itself m f) xs ys same =
    let here : c ∷ xs ≡ d ∷ ys = rw (e, f) at same in
    record { meant = cc; left = ap tail here }
means_same {c = c} (Itself n e) (Escape s) xs ys same =
    let t = is_escape s in
    let here : c ∷ xs ≡ 92 ∷ (t.inside ++ ys) = rw (e, t.backslash) at same in
    absurd (n (cc))
means_same {d = d} (Escape s) (Itself m f) xs ys same =
    let t = is_escape s in
    let here : 92 ∷ (t.inside ++ xs) ≡ d ∷ ys = rw (t.backslash, f) at same in
    absurd (m (cc))
means_same (Escape s) (Escape r) xs ys same =
    let t = is_escape s in
    let u = is_escape r in
    let here : 92 ∷ (t.inside ++ xs) ≡ 92 ∷ (u.inside ++ ys) = rw (t.backslash, u.backslash) at same in
    let rest : t.inside ++ xs ≡ u.inside ++ ys = ap tail here in
    record {
      meant = sym (t.number xs) ∙ ap escape_number rest ∙ u.number ys;
      left = sym (t.ends xs) ∙ ap (λ (l : List ℕ). drop (escape_length l) l) rest ∙ u.ends ys;
    }

-- what means a character is not nothing
means_some : {p : List ℕ} {c : ℕ} → Means p c → (rest : List ℕ) → p ++ rest ≡ [] → ⊥
means_some (Itself n e) rest none = let here = rw e at none in absurd (cc)
means_some (Escape s) rest none = let here = rw (is_escape s).backslash at none in absurd (cc)

pub one_meaning : (cs a b : List ℕ) → Unescapes cs a → Unescapes cs b → a ≡ b
one_meaning cs [] [] u v = refl
one_meaning cs [] (d ∷ b) u v = absurd (means_some v.3 v.1 (sym v.2 ∙ u))
one_meaning cs (c ∷ a) [] u v = absurd (means_some u.3 u.1 (sym u.2 ∙ v))
one_meaning cs (c ∷ a) (d ∷ b) u v =
    let same = means_same u.3 v.3 u.1 v.1 (sym u.2 ∙ v.2) in
    let rest : a ≡ b = one_meaning u.1 a b u.4 (subst (λ l. Unescapes l b) (sym same.left) v.4) in
    rw (same.meant, rest) refl

-- ---- one after the other

pub unescapes_append : (xs ys a b : List ℕ) → Unescapes xs a → Unescapes ys b → Unescapes (xs ++ ys) (a ++ b)
unescapes_append xs ys [] b u v = subst (λ l. Unescapes (l ++ ys) b) (sym u) v
unescapes_append xs ys (c ∷ a) b u v = (
  u.0,
  u.1 ++ ys,
  ap (λ (l : List ℕ). l ++ ys) u.2 ∙ append_assoc u.0 u.1 ys,
  u.3,
  unescapes_append u.1 ys a b u.4 v,
)
