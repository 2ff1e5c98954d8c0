-- Where numbers rise along the references of a shape and never fall, it does not reach itself.
use Rattle.std.specs.Prelude.{◌≡◌, ℕ, ◌<◌, ◌≤◌, List, [], ◌∷◌, length, Vec}
use Rattle.std.specs.declared.alloc.Global.{Global}
use Rattle.std.proofs.Common.{ap, ◌∙◌, subst, arith, get_or}
use Rattle.std.proofs.lemmas.List.{get_or_default}
use Rattle.shx_term.specs.Chains.{Walk}
use Rattle.shape_order.specs.Chain.{IsCycle, IsLeastCycle, IsRecursive}
use Rattle.shape_order.specs.Refs.{Refers, refs_of}
use Rattle.shape_order.specs.inner.Rising.{AreAbove, NeverFalls, RiseBelow}
use Rattle.shape_order.proofs.LeastLemmas.{refers_below, least_of}

module _ (refs : List (Vec ℕ Global)) (number : ℕ → ℕ)
    (never : NeverFalls (refs_of refs) (length refs) number) where
  walk_rises : (ns : List ℕ) (x y : ℕ) → Walk (Refers (refs_of refs)) x ns y → number x ≤ number y
  walk_rises [] x y e = let same : number x ≡ number y = ap number e in omega arith
  walk_rises (n ∷ ns) x y walk =
      let rest : number n ≤ number y = walk_rises ns n y walk.1 in
      let c = walk.0 in
      let is : get_or (refs_of refs x) c.0 0 ≡ n = get_or_default (refs_of refs x) c.0 0 n c.1 ∙ c.2 in
      let step : number x ≤ number n =
      subst (λ j. number x ≤ number j) is ((never.each x (refers_below refs x n c)).each c.0 c.1) in
      omega arith

  not_recursive : (i : ℕ) → AreAbove (refs_of refs i) number (number i) → IsRecursive (refs_of refs) i → ⊥
  not_recursive i rise longer =
      let c = longer.1 in
      let n = longer.0 in
      let is : get_or (refs_of refs i) c.0 0 ≡ n = get_or_default (refs_of refs i) c.0 0 n c.1 ∙ c.2 in
      let first : number i < number n = subst (λ j. number i < number j) is (rise.each c.0 c.1) in
      let rest = walk_rises longer.2.0 n i longer.2.1 in
      omega arith

  pub least_by_numbers : (shape : ℕ) (cycle : List ℕ) → RiseBelow (refs_of refs) number shape
      → IsCycle (refs_of refs) shape cycle → IsLeastCycle (refs_of refs) cycle
  least_by_numbers shape cycle rise is =
      least_of (refs_of refs) shape cycle is (λ i h. not_recursive i (rise.each i h))
