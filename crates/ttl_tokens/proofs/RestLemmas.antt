-- What a form over characters leaves is a rest of what stood there.
use Rattle.std.proofs.Common.{◌≡◌, ℕ, zero, suc, ◌<◌, List, [], ◌∷◌, ◌++◌, length, sym, ap, ◌∙◌}
use Rattle.std.proofs.Common.{◌⊎◌, inl, inr, arith, append_assoc, length-append}
use Rattle.std.proofs.Math.Nat.{eq-or-lt_of_le}
use Rattle.ttl_tokens.specs.Form.{Empty, Item, Then, Or, Maybe, Many, Times, Takes}
use Rattle.ttl_tokens.specs.Chars.{Chars, Longest, PastChar}

-- ys is what is left of xs behind a front
abbrev pub IsRest : List ℕ → List ℕ → Type 0
IsRest xs ys = (front : List ℕ) × (xs ≡ front ++ ys)

pub rest_none : (xs ys : List ℕ) → xs ≡ ys → IsRest xs ys
rest_none xs ys e = ([], e)

pub rest_then : (xs ys zs : List ℕ) → IsRest xs ys → IsRest ys zs → IsRest xs zs
rest_then xs ys zs a b =
    (a.0 ++ b.0, a.1 ∙ ap (λ (l : List ℕ). a.0 ++ l) b.1 ∙ sym (append_assoc a.0 b.0 zs))

pub rest_cons : (c : ℕ) (cs ys : List ℕ) → IsRest cs ys → IsRest (c ∷ cs) ys
rest_cons c cs ys a = (c ∷ a.0, ap (λ (l : List ℕ). c ∷ l) a.1)

-- ---- what a form leaves

times_rest : (R : List ℕ → List ℕ → Type 0) → ((xs ys : List ℕ) → R xs ys → IsRest xs ys) → (n : ℕ)
    (xs ys : List ℕ) → Times R n xs ys → IsRest xs ys
times_rest R one zero xs ys e = rest_none xs ys e
times_rest R one (suc n) xs ys t = rest_then xs t.0 ys (one xs t.0 t.1) (times_rest R one n t.0 ys t.2)

pub takes_rest : (f : Chars) (xs ys : List ℕ) → Takes PastChar f xs ys → IsRest xs ys
takes_rest Empty xs ys e = rest_none xs ys e
takes_rest (Item p) [] ys t = absurd t
takes_rest (Item p) (c ∷ cs) ys t = rest_cons c cs ys (rest_none cs ys t.1)
takes_rest (Then a b) xs ys t = rest_then xs t.0 ys (takes_rest a xs t.0 t.1) (takes_rest b t.0 ys t.2)
takes_rest (Or a b) xs ys (inl t) = takes_rest a xs ys t
takes_rest (Or a b) xs ys (inr t) = takes_rest b xs ys t
takes_rest (Maybe a) xs ys (inl e) = rest_none xs ys e
takes_rest (Maybe a) xs ys (inr t) = takes_rest a xs ys t
takes_rest (Many a) xs ys t = times_rest (Takes PastChar a) (takes_rest a) t.0 xs ys t.1

-- ---- one length, one place

same_rest : (a b ys zs : List ℕ) → a ++ ys ≡ b ++ zs → length ys ≡ length zs → ys ≡ zs
same_rest [] [] ys zs e l = e
same_rest [] (d ∷ b) ys zs e l = absurd (omega (arith, l, ap length e, length-append b zs))
same_rest (c ∷ a) [] ys zs e l = absurd (omega (arith, l, ap length e, length-append a ys))
same_rest (c ∷ a) (d ∷ b) ys zs e l = same_rest a b ys zs (cc) l

pub same_place : (f g : Chars) (xs ys zs : List ℕ) → Takes PastChar f xs ys → Takes PastChar g xs zs
    → length ys ≡ length zs → ys ≡ zs
same_place f g xs ys zs s t l =
    let a = takes_rest f xs ys s in
    let b = takes_rest g xs zs t in
    same_rest a.0 b.0 ys zs (sym a.1 ∙ b.1) l

-- the longest front is one
pub longest_one : {f : Chars} {xs ys zs : List ℕ} → Longest f xs ys → Longest f xs zs → ys ≡ zs
longest_one {f = f} {xs = xs} {ys = ys} {zs = zs} a b =
    let le = a.longest zs b.takes in
    let ge = b.longest ys a.takes in
    same_place f f xs ys zs a.takes b.takes (omega (arith, le, ge))

-- a front that is not the longest is shorter
pub longest_other : {f : Chars} {xs ys : List ℕ} → Longest f xs ys → (zs : List ℕ) → Takes PastChar f xs zs
    → (zs ≡ ys) ⊎ (length ys < length zs)
longest_other {f = f} {xs = xs} {ys = ys} found zs t = go (eq-or-lt_of_le (found.longest zs t))
  where
    go : (length ys ≡ length zs) ⊎ (length ys < length zs) → (zs ≡ ys) ⊎ (length ys < length zs)
    go (inl e) = inl (sym (same_place f f xs ys zs found.takes t e))
    go (inr less) = inr less
