-- A text appended to bytes where memory may have been refused, and the laws of that.
use Rattle.std.specs.Prelude.{◌≡◌, ℕ, List, [], ◌++◌, Result, Ok, Err, IsOk, OnOk}
use Rattle.std.proofs.Common.{refl, true≢false, sym, ap, ◌∙◌, append-nil, append_assoc}

-- where all is well now, it was well before, and the text was added behind the bytes
abbrev pub Appended : {E : Type 0}
    → Result (Unit {0}) E → Result (Unit {0}) E → List ℕ → List ℕ → List ℕ → Type 0
Appended was now before after text = OnOk now (IsOk was × (after ≡ before ++ text))

pub Appended-nothing : {E : Type 0} (r : Result (Unit {0}) E) (bytes : List ℕ) → Appended r r bytes bytes []
Appended-nothing (Ok done) bytes = (refl, sym (append-nil bytes))
Appended-nothing (Err e) bytes = tt

pub Appended-in_turn : {E : Type 0} (r s t : Result (Unit {0}) E) (k l m x y : List ℕ)
    → Appended r s k l x → Appended s t l m y → Appended r t k m (x ++ y)
Appended-in_turn r (Ok done) (Ok end) k l m x y p q =
    (p.0, q.1 ∙ ap (λ z. z ++ y) p.1 ∙ append_assoc k x y)
Appended-in_turn r (Err e) (Ok end) k l m x y p q = absurd (true≢false (sym q.0))
Appended-in_turn r s (Err e) k l m x y p q = tt
