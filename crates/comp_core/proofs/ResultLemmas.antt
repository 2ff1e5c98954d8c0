-- Results that are the same where tests are.
use Rattle.std.specs.Prelude.{◌≡◌, ℕ, Bool, List, [], ◌∷◌, Contains}
use Rattle.std.specs.List.{list_any}
use Rattle.std.proofs.Common.{refl, ap}
use Rattle.shx_term.proofs.MemberLemmas.{Contains-head, Contains-tail, flat_map_agree}
use Rattle.comp_core.specs.declared.pair.At.{At}
use Rattle.comp_core.specs.Results.{each_unless, unless}

pub each_unless-agree : (p q : ℕ → Bool) (kind : ℕ) (at : At) (vs : List ℕ)
    → ((v : ℕ) → Contains vs v → p v ≡ q v) → each_unless p kind at vs ≡ each_unless q kind at vs
each_unless-agree p q kind at vs same =
    flat_map_agree (λ v. unless (p v) kind at v) (λ v. unless (q v) kind at v) vs
    (λ v i. ap (λ b. unless b kind at v) (same v i))

pub list_any-agree : {X : Type 0} (p q : X → Bool) (xs : List X) → ((x : X) → Contains xs x → p x ≡ q x)
    → list_any p xs ≡ list_any q xs
list_any-agree p q [] same = refl
list_any-agree p q (x ∷ xs) same =
    rw (same x (Contains-head x xs), list_any-agree p q xs (λ y c. same y (Contains-tail x y xs c))) refl
