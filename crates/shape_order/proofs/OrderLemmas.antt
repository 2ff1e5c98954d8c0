-- An order in which each shape stands behind those that it refers to.
use Rattle.std.specs.Prelude.{◌≡◌, ◌≢◌, ℕ, ◌<◌, ◌≤◌, nat_eq, true, false, List, [], ◌∷◌, ◌++◌, length, take}
use Rattle.std.specs.Prelude.{Contains, if◌then◌else◌}
use Rattle.std.specs.List.{IsDistinct, list_any}
use Rattle.std.proofs.Common.{sym, ◌∙◌, subst, arith, get_or, inl, inr, true≢false}
use Rattle.std.proofs.lemmas.Bool.{eq-eqb}
use Rattle.std.proofs.lemmas.List.{get_or_append_left, get_or_push, length_push, get_or_default}
use Rattle.std.proofs.lemmas.List.{take-append-le, take_at, get_or-take, length-take-le}
use Rattle.std.proofs.lemmas.List.Elements.{Contains-get_or}
use Rattle.std.proofs.lemmas.Map.Keys.{apart_from_distinct}
use Rattle.shx_term.specs.Chains.{Walk}
use Rattle.shape_order.specs.Chain.{IsRecursive}
use Rattle.shape_order.specs.Order.{IsOrdered, HasEach}
use Rattle.shape_order.specs.Refs.{Refers}
use Rattle.shape_order.specs.inner.Listed.{with_shape}
use Rattle.shape_order.proofs.ChainLemmas.{below_or}
use Rattle.shape_order.proofs.SearchLemmas.{few}

-- ---- places

module _ (order : List ℕ) where
  -- a member of the first shapes, so many, stands at one of their places
  pub taken : (place x : ℕ) → place ≤ length order → Contains (take place order) x
      → (k : ℕ) × (k < place) × (get_or order k 0 ≡ x)
  taken place x far c =
      let short : length (take place order) ≡ place = length-take-le place order far in
      let near : c.0 < place = (let h = c.1 in omega arith) in
      (c.0, near, get_or_default order c.0 0 x (omega arith) ∙ sym (get_or-take place order c.0 x near) ∙ c.2)

  fewer : (k m : ℕ) (y : ℕ) → k ≤ m → m ≤ length order → Contains (take k order) y → Contains (take m order) y
  fewer k m y h near c =
      let short : length (take k order) ≡ k = length-take-le k order (omega arith) in
      let long : length (take m order) ≡ m = length-take-le m order near in
      let within : c.0 < k = omega (arith, c.1) in (
        c.0,
        omega arith,
        get_or-take m order c.0 y (omega arith) ∙ sym (get_or-take k order c.0 y within) ∙ c.2,
      )

  pub apart : IsDistinct nat_eq order → (j k : ℕ) → j < k → k < length order
      → get_or order j 0 ≢ get_or order k 0
  apart distinct j k h near e =
      true≢false (sym (eq-eqb (get_or order j 0) (get_or order k 0) e)
      ∙ apart_from_distinct nat_eq order j k 0 distinct h near)

module _ (count : ℕ) (order : List ℕ) (each : HasEach count order) where
  pub shape_within : (place : ℕ) → place < length order → get_or order place 0 < count
  shape_within place here = (each.each (get_or order place 0)).0 (Contains-get_or order place 0 here)

  pub order_short : IsDistinct nat_eq order → length order ≤ count
  order_short distinct = few order count distinct (λ i. (each.each i).0)

-- ---- a shape more

module _ (to : ℕ → List ℕ) where
  module _ (order : List ℕ) (x : ℕ) (ordered : IsOrdered to order)
      (all : (j : ℕ) → Refers to x j → Contains order j) where
    IsOrdered-push : IsOrdered to (order ++ x ∷ [])
    IsOrdered-push = record {
      behind = λ k h j r.
          let here : (i : ℕ) → get_or (order ++ x ∷ []) k 0 ≡ i → Refers to i j =
          λ i e. subst (λ i. Refers to i j) e r in
          elim (below_or k (length order) (omega (arith, length_push order x))) [
            | inl below ↦
                subst (λ (ys : List ℕ). Contains ys j) (sym (take-append-le k order (x ∷ []) (omega arith)))
                (ordered.behind k below j
                (here (get_or order k 0) (get_or_append_left order (x ∷ []) 0 k below)))
            | inr end ↦
                subst (λ (ys : List ℕ). Contains ys j) (sym (take_at order (x ∷ []) k (sym end)))
                (all j (here x (get_or_push order x 0 k (sym end))))
          ];
    }

    -- behind all that it refers to
    pub IsOrdered-add : IsOrdered to (with_shape order x)
    IsOrdered-add =
        elim (list_any (nat_eq x) order) as (λ b. IsOrdered to (if b then order else order ++ x ∷ [])) [
          | true ↦ ordered
          | false ↦ IsOrdered-push
        ]

-- ---- what stands in front of a shape

module _ (to : ℕ → List ℕ) (order : List ℕ) (ordered : IsOrdered to order) where
  -- what the first shapes refer to is among them
  pub led : (place x j : ℕ) → place ≤ length order → Contains (take place order) x → Refers to x j
      → Contains (take place order) j
  led place x j far c r =
      let at = taken order place x far c in
      fewer order at.0 place j (let h = at.1 in omega arith) far
      (ordered.behind at.0 (let h = at.1 in omega arith) j (subst (λ i. Refers to i j) (sym at.2) r))

  walk_led : (place : ℕ) → place ≤ length order → (ns : List ℕ) (x y : ℕ) → Contains (take place order) x
      → Walk (Refers to) x ns y → Contains (take place order) y
  walk_led place far [] x y c e = subst (Contains (take place order)) e c
  walk_led place far (n ∷ ns) x y c walk = walk_led place far ns n y (led place x n far c walk.0) walk.1

  pub none_recursive : IsDistinct nat_eq order → (x : ℕ) → Contains order x → IsRecursive to x → ⊥
  none_recursive distinct x c longer =
      let is : get_or order c.0 0 ≡ x = get_or_default order c.0 0 x c.1 ∙ c.2 in
      let far : c.0 ≤ length order = omega (arith, c.1) in
      let first = ordered.behind c.0 c.1 longer.0 (subst (λ i. Refers to i longer.0) (sym is) longer.1) in
      let before = taken order c.0 x far (walk_led c.0 far longer.2.0 longer.0 x first longer.2.1) in
      apart order distinct before.0 c.0 before.1 c.1 (before.2 ∙ sym is)
