-- References that are listed.
use Rattle.std.specs.Prelude.{◌≡◌, ℕ, zero, suc, ◌+◌, ◌<◌, ◌≤◌, List, [], ◌∷◌, length, Contains, Vec}
use Rattle.std.specs.declared.alloc.Global.{Global}
use Rattle.std.proofs.Common.{refl, arith, get_or, below_more}
use Rattle.shape_order.specs.Refs.{refs_of}
use Rattle.shape_order.specs.inner.Search.{AreListed}

pub refs_at : (vs : List (Vec ℕ Global)) (i : ℕ) (d : Vec ℕ Global) → i < length vs
    → refs_of vs i ≡ (get_or vs i d).items
refs_at [] i d within = absurd (omega arith)
refs_at (v ∷ vs) zero d within = refl
refs_at (v ∷ vs) (suc i) d within = refs_at vs i d (omega arith)

pub AreListed-more : (shapes listed : List ℕ) (from place : ℕ) → AreListed shapes listed from place
    → Contains listed (get_or shapes place 0) → AreListed shapes listed from (place + 1)
AreListed-more shapes listed from place passed here = record {
  each = λ k low high.
      below_more (λ k. from ≤ k → Contains listed (get_or shapes k 0)) place
      (λ k h low. passed.each k low h) (λ _. here) k high low;
}
