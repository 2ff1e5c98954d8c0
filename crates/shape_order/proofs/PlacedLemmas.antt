-- The places of shapes in an order.
use Rattle.std.specs.Prelude.{◌≡◌, ℕ, ◌+◌, ◌<◌, ◌≤◌, nat_eq, true, false, List, length, set}
use Rattle.std.specs.List.{IsDistinct}
use Rattle.std.proofs.Common.{refl, sym, ap, ◌∙◌, subst, arith, get_or, below_more}
use Rattle.std.proofs.lemmas.Bool.{eqb-true}
use Rattle.std.proofs.lemmas.List.{get_or-set_same, get_or-set_other, length-set, get_or_default}
use Rattle.std.proofs.lemmas.Map.Keys.{IsDistinct-from_apart}
use Rattle.shape_order.specs.Order.{IsOrdered, HasEach}
use Rattle.shape_order.specs.Refs.{Refers}
use Rattle.shape_order.specs.inner.Placed.{ArePlaced}
use Rattle.shape_order.proofs.OrderLemmas.{taken, apart, shape_within, order_short}
use Rattle.shape_order.proofs.SearchLemmas.{few}

module _ (count : ℕ) (order : List ℕ) (distinct : IsDistinct nat_eq order) (each : HasEach count order) where
  -- the place of the next is written
  pub placed_more : (place : ℕ) (places : List ℕ) → place < length order → ArePlaced count order place places
      → ArePlaced count order (place + 1) (set places (get_or order place 0) place)
  placed_more place places here placed =
      let next = get_or order place 0 in
      let more = set places next place in
      let below : next < length places =
      (let a = shape_within count order each place here in let b = placed.long in omega arith) in
      record {
        long = length-set places next place ∙ placed.long;
        found = below_more (λ k. get_or more (get_or order k 0) 0 ≡ k) place
            (λ k h.
            get_or-set_other places next (get_or order k 0) place 0 (apart order distinct k place h here)
            ∙ placed.found k h)
            (get_or-set_same places next place 0 below);
      }

  module _ (places : List ℕ) (placed : ArePlaced count order (length order) places) where
    -- each shape stands at its place
    at : (i : ℕ) → i < count → (get_or places i 0 < length order) × (get_or order (get_or places i 0) 0 ≡ i)
    at i h =
        let c = (each.each i).1 h in
        let is : get_or order c.0 0 ≡ i = get_or_default order c.0 0 i c.1 ∙ c.2 in
        let place : get_or places i 0 ≡ c.0 = ap (λ i. get_or places i 0) (sym is) ∙ placed.found c.0 c.1 in
        (subst (λ k. k < length order) (sym place) c.1, ap (λ k. get_or order k 0) place ∙ is)

    pub places_stand : (i : ℕ) → i < count → get_or order (get_or places i 0) 0 ≡ i
    places_stand i h = (at i h).1

    places_distinct : IsDistinct nat_eq places
    places_distinct = IsDistinct-from_apart nat_eq places (λ i j d below near.
        let long = placed.long in
        let one : get_or places i d ≡ get_or places i 0 = get_or_default places i d 0 (omega arith) in
        let two : get_or places j d ≡ get_or places j 0 = get_or_default places j d 0 near in
        elim (nat_eq (get_or places i d) (get_or places j d)) as
        (λ b. nat_eq (get_or places i d) (get_or places j d) ≡ b → b ≡ false) [
          | true ↦ λ e.
              let same : get_or places i 0 ≡ get_or places j 0 =
              sym one ∙ eqb-true (get_or places i d) (get_or places j d) e ∙ two in
              let tied : i ≡ j =
              sym (places_stand i (omega arith)) ∙ ap (λ k. get_or order k 0) same
              ∙ places_stand j (omega arith) in
              absurd (omega arith)
          | false ↦ λ _. refl
        ] refl)

    -- so the order has as many
    pub order_long : length order ≡ count
    order_long =
        let short = order_short count order each distinct in
        let long = placed.long in
        let wide : length places ≤ length order = few places (length order) places_distinct (λ y c.
        let is : get_or places c.0 0 ≡ y = get_or_default places c.0 0 y c.1 ∙ c.2 in
        subst (λ k. k < length order) is (at c.0 (let h = c.1 in omega arith)).0) in
        omega arith

    pub places_within : (i : ℕ) → i < count → get_or places i 0 < count
    places_within i h = subst (λ n. get_or places i 0 < n) order_long (at i h).0

    -- what a shape refers to has a lower place
    pub places_lower : (to : ℕ → List ℕ) → IsOrdered to order → (i j : ℕ) → i < count → Refers to i j
        → get_or places j 0 < get_or places i 0
    places_lower to ordered i j h r =
        let k = get_or places i 0 in
        let here : Refers to (get_or order k 0) j = subst (λ i. Refers to i j) (sym (at i h).1) r in
        let far = (at i h).0 in
        let before = taken order k j (omega arith) (ordered.behind k far j here) in
        let near : before.0 < length order = (let b = before.1 in omega arith) in
        let place : get_or places j 0 ≡ before.0 =
        ap (λ j. get_or places j 0) (sym before.2) ∙ placed.found before.0 near in
        subst (λ n. n < k) (sym place) before.1
