-- Several texts that are added in turn are one.
use Rattle.std.proofs.Common.{ℕ, List, ◌++◌}

-- the law of a trait that adds
abbrev pub InTurn : {S : Type 0} → (S → S → List ℕ → Type 0) → Type 0
InTurn {S = S} added = (a b c : S) (x y : List ℕ) → added a b x → added b c y → added a c (x ++ y)

pub three_in_turn : {S : Type 0} {added : S → S → List ℕ → Type 0} → InTurn added
    → {a b c d : S} {x y z : List ℕ} → added a b x → added b c y → added c d z → added a d (x ++ y ++ z)
three_in_turn then first second third = then _ _ _ _ _ (then _ _ _ _ _ first second) third

pub four_in_turn : {S : Type 0} {added : S → S → List ℕ → Type 0} → InTurn added
    → {a b c d e : S} {x y z u : List ℕ} → added a b x → added b c y → added c d z → added d e u
    → added a e (x ++ y ++ z ++ u)
four_in_turn then first second third fourth = then _ _ _ _ _ (three_in_turn then first second third) fourth
