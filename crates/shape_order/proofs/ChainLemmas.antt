-- Chains of steps, and the steps along a trail.
use Rattle.std.specs.Prelude.{◌≡◌, ◌≢◌, ℕ, zero, suc, ◌+◌, ◌-◌, ◌<◌, ◌≤◌, ◌⊎◌, nat_eq, true, false}
use Rattle.std.specs.Prelude.{List, [], ◌∷◌, ◌++◌, length, Contains}
use Rattle.std.proofs.Common.{refl, sym, ap, ◌∙◌, subst, arith, get_or, inl, inr}
use Rattle.std.proofs.lemmas.List.{get_or_append_left, get_or_push, length_push, get_or_default}
use Rattle.std.proofs.lemmas.Bool.{eqb-true, eqb-false}
use Rattle.shx_term.specs.Chains.{Walk, Chain, Longer}
use Rattle.shape_order.specs.Chain.{IsRecursive, IsTrail, IsCycle}
use Rattle.shape_order.specs.Refs.{Refers}

module _ (R : ℕ → ℕ → Type 0) where
  longer_step : (x y : ℕ) → R x y → Longer R x y
  longer_step x y step = (y, step, ([], refl))

  chain_of_longer : (x y : ℕ) → Longer R x y → Chain R x y
  chain_of_longer x y longer = (longer.0 ∷ longer.2.0, (longer.1, longer.2.1))

  walk_then : (ns : List ℕ) (x z y : ℕ) → Walk R x ns z → Longer R z y → Longer R x y
  walk_then [] x z y e longer = subst (λ w. Longer R w y) (sym e) longer
  walk_then (n ∷ ns) x z y walk longer =
      let rest = walk_then ns n z y walk.1 longer in
      (n, walk.0, chain_of_longer n y rest)

  -- a chain, and then one step or more
  longer_behind : (x z y : ℕ) → Chain R x z → Longer R z y → Longer R x y
  longer_behind x z y chain longer = walk_then chain.0 x z y chain.1 longer

-- ---- along a trail

pub below_or : (a b : ℕ) → a < b + 1 → (a < b) ⊎ (a ≡ b)
below_or a b h = elim (nat_eq a b) as (λ t. nat_eq a b ≡ t → (a < b) ⊎ (a ≡ b)) [
  | true ↦ λ e. inr (eqb-true a b e)
  | false ↦ λ e. let differs : a ≢ b = eqb-false a b e in inl (omega arith)
] refl

module _ (to : ℕ → List ℕ) where
  refers_along : {x x' y y' : ℕ} → x ≡ x' → y ≡ y' → Refers to x y → Refers to x' y'
  refers_along {x' = x'} {y = y} e f step =
      subst (λ j. Refers to x' j) f (subst (λ i. Refers to i y) e step)

  chain_along : {x x' y y' : ℕ} → x ≡ x' → y ≡ y' → Chain (Refers to) x y → Chain (Refers to) x' y'
  chain_along {x' = x'} {y = y} e f chain =
      subst (λ j. Chain (Refers to) x' j) f (subst (λ i. Chain (Refers to) i y) e chain)

  pub IsTrail-one : (x : ℕ) → IsTrail to (x ∷ [])
  IsTrail-one x = record { steps = λ k h. absurd (omega arith) }

  pub IsTrail-front : (xs : List ℕ) (x : ℕ) → IsTrail to (xs ++ x ∷ []) → IsTrail to xs
  IsTrail-front xs x trail = record {
    steps = λ k h.
        let long : k + 1 < length (xs ++ x ∷ []) = omega (arith, length_push xs x) in
        let near : k < length xs = omega arith in
        refers_along (get_or_append_left xs (x ∷ []) 0 k near) (get_or_append_left xs (x ∷ []) 0 (k + 1) h)
        (trail.steps k long);
  }

  -- a step more from the last
  pub IsTrail-push : (xs : List ℕ) (x y : ℕ) → IsTrail to (xs ++ x ∷ []) → Refers to x y
      → IsTrail to ((xs ++ x ∷ []) ++ y ∷ [])
  IsTrail-push xs x y trail last = record {
    steps = λ k h.
        let all = xs ++ x ∷ [] in
        let near : k < length all = omega (arith, length_push all y) in
        let kept = get_or_append_left all (y ∷ []) 0 in
        elim (below_or (k + 1) (length all) (omega (arith, length_push all y))) [
          | inl below ↦ refers_along (sym (kept k near)) (sym (kept (k + 1) below)) (trail.steps k below)
          | inr end ↦
              let here : length xs ≡ k = omega (arith, length_push xs x) in
              refers_along (sym (kept k near ∙ get_or_push xs x 0 k here))
              (sym (get_or_push all y 0 (k + 1) (sym end))) last
        ];
  }

  trail_chain : (xs : List ℕ) (d k : ℕ) → IsTrail to xs → k + d < length xs
      → Chain (Refers to) (get_or xs k 0) (get_or xs (k + d) 0)
  trail_chain xs zero k trail h = ([], ap (λ i. get_or xs i 0) (omega arith))
  trail_chain xs (suc d) k trail h =
      let near : k + 1 < length xs = omega arith in
      let e : (k + 1) + d ≡ k + suc d = omega arith in
      let next = get_or xs (k + 1) 0 in
      let rest : Chain (Refers to) next (get_or xs ((k + 1) + d) 0) =
      trail_chain xs d (k + 1) trail (omega arith) in (
        next ∷ rest.0,
        (trail.steps k near, subst (λ i. Walk (Refers to) next rest.0 (get_or xs i 0)) e rest.1),
      )

  -- whose last leads back to one of it, which so reaches itself
  pub trail_closed : (xs : List ℕ) (x y : ℕ) → IsTrail to (xs ++ x ∷ []) → Refers to x y
      → Contains (xs ++ x ∷ []) y → IsRecursive to y
  trail_closed xs x y trail last c =
      let all = xs ++ x ∷ [] in
      let d = length xs - c.0 in
      let far : c.0 ≤ length xs = omega (arith, length_push xs x, c.1) in
      let from_y : get_or all c.0 0 ≡ y = get_or_default all c.0 0 y c.1 ∙ c.2 in
      let to_x : get_or all (c.0 + d) 0 ≡ x =
      ap (λ i. get_or all i 0) (omega arith) ∙ get_or_push xs x 0 (length xs) refl in
      let chain = trail_chain all d c.0 trail (omega (arith, length_push xs x)) in
      longer_behind (Refers to) y x y (chain_along from_y to_x chain) (longer_step (Refers to) x y last)

  -- from the first of a cycle round to it
  pub trail_whole : (cycle : List ℕ) (start : ℕ) → IsCycle to start cycle → IsRecursive to start
  trail_whole cycle start is =
      let d = length cycle - 1 in
      let far : 0 + d < length cycle = (let some = is.filled in omega arith) in
      let last : get_or cycle (0 + d) 0 ≡ get_or cycle d 0 = ap (λ i. get_or cycle i 0) (omega arith) in
      let chain = trail_chain cycle d 0 is.trail far in
      longer_behind (Refers to) start (get_or cycle d 0) start (chain_along is.first last chain)
      (longer_step (Refers to) (get_or cycle d 0) start is.closed)
