-- The least shape that reaches itself.
use Rattle.std.specs.Prelude.{◌≡◌, ℕ, zero, suc, ◌+◌, ◌-◌, ◌<◌, ◌≤◌, List, [], ◌∷◌, length, Vec}
use Rattle.std.specs.declared.alloc.Global.{Global}
use Rattle.std.proofs.Common.{sym, ◌∙◌, subst, arith, get_or, inl, inr, below_more}
use Rattle.std.proofs.lemmas.List.{get_or_default}
use Rattle.std.proofs.lemmas.List.Elements.{Contains-get_or}
use Rattle.shx_term.proofs.MemberLemmas.{none_in_empty}
use Rattle.shape_order.specs.Chain.{IsCycle, IsLeastCycle, IsRecursive}
use Rattle.shape_order.specs.Refs.{IsWithin, Refers, refs_of}
use Rattle.shape_order.proofs.ChainLemmas.{below_or, trail_whole}

-- none of the shapes up to one reaches itself; a later one, or this one, does
pub record NoneBelow (to : ℕ → List ℕ) (known shape : ℕ) : Type 0 where
  pub near : shape ≤ known
  pub none : (i : ℕ) → i < shape → IsRecursive to i → ⊥

-- only a shape refers to another
pub refers_below : (refs : List (Vec ℕ Global)) (i j : ℕ) → Refers (refs_of refs) i j → i < length refs
refers_below [] i j r = absurd (none_in_empty j r)
refers_below (v ∷ vs) zero j r = omega arith
refers_below (v ∷ vs) (suc i) j r = let below = refers_below vs i j r in omega arith

pub recursive_below : (refs : List (Vec ℕ Global)) (i : ℕ) → IsRecursive (refs_of refs) i → i < length refs
recursive_below refs i longer = refers_below refs i longer.0 longer.1

pub least_of : (to : ℕ → List ℕ) (shape : ℕ) (cycle : List ℕ) → IsCycle to shape cycle
    → ((i : ℕ) → i < shape → IsRecursive to i → ⊥) → IsLeastCycle to cycle
least_of to shape cycle is none = record {
  cycle = subst (λ s. IsCycle to s cycle) (sym is.first) is;
  recursive = subst (IsRecursive to) (sym is.first) (trail_whole to cycle shape is);
  least = λ i h. none i (subst (λ s. i < s) is.first h);
}

pub none_more : (to : ℕ → List ℕ) (known shape : ℕ) → NoneBelow to known shape → IsRecursive to known
    → (IsRecursive to shape → ⊥) → NoneBelow to known (shape + 1) × (known - (shape + 1) < known - shape)
none_more to known shape below recursive not =
    let differs : shape ≡ known → ⊥ = λ e. not (subst (IsRecursive to) (sym e) recursive) in
    let nearer : shape < known = elim (below_or shape known (let n = below.near in omega arith)) [
      | inl h ↦ h
      | inr e ↦ absurd (differs e)
    ] in (
      record { near = omega arith; none = below_more (λ i. IsRecursive to i → ⊥) shape below.none not },
      omega arith,
    )

-- ---- that all references are to shapes

-- those of the first shapes
pub record AreWithin (to : ℕ → List ℕ) (count place : ℕ) : Type 0 where
  pub each : (i : ℕ) → i < place → (k : ℕ) → k < length (to i) → get_or (to i) k 0 < count

pub all_within : (refs : List (Vec ℕ Global)) (count place : ℕ) → length refs ≤ place
    → AreWithin (refs_of refs) count place → IsWithin (refs_of refs) count
all_within refs count place far within = record {
  each = λ i j c.
      let below = refers_below refs i j c in
      let is : get_or (refs_of refs i) c.0 0 ≡ j = get_or_default (refs_of refs i) c.0 0 j c.1 ∙ c.2 in
      subst (λ x. x < count) is (within.each i (omega arith) c.0 c.1);
}

-- a reference to none
pub not_within : (to : ℕ → List ℕ) (count i k : ℕ) → k < length (to i) → count ≤ get_or (to i) k 0
    → IsWithin to count → ⊥
not_within to count i k h far within =
    let near = within.each i (get_or (to i) k 0) (Contains-get_or (to i) k 0 h) in
    absurd (omega arith)
