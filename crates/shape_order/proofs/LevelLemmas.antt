-- Levels of shapes.
use Rattle.std.specs.Prelude.{◌≡◌, ◌≢◌, ℕ, zero, suc, ◌+◌, ◌<◌, ◌≤◌, ◌↔◌, max, nat_eq, true, false}
use Rattle.std.specs.Prelude.{List, [], ◌∷◌, ◌++◌, length, map, set, take, Contains}
use Rattle.std.specs.List.{IsDistinct}
use Rattle.std.proofs.Common.{refl, sym, ap, ◌∙◌, subst, arith, get_or, inl, inr, true≢false}
use Rattle.std.proofs.lemmas.Bool.{cases_lt, eqb-true, eq-eqb}
use Rattle.std.proofs.lemmas.List.{get_or-set_same, get_or-set_other, length-set, take_all, take_more}
use Rattle.std.proofs.lemmas.List.{map_more, get_or_default}
use Rattle.std.proofs.lemmas.List.Elements.{Contains-get_or, Contains-push_cases}
use Rattle.shx_term.proofs.MemberLemmas.{Contains-head, Contains-tail, map_agree}
use Rattle.shape_order.specs.Levels.{above, HasSteps, AreLevels}
use Rattle.shape_order.specs.Order.{IsOrdered, HasEach}
use Rattle.shape_order.specs.Refs.{Refers, IsWithin}
use Rattle.shape_order.proofs.OrderLemmas.{taken, led, apart, shape_within}

-- ---- one more than the greatest

above_push : (ls : List ℕ) (l : ℕ) → above (ls ++ l ∷ []) ≡ max (above ls) (l + 1)
above_push [] l = omega arith
above_push (m ∷ ls) l = let e = above_push ls l in omega arith

pub above_more : (f : ℕ → ℕ) (xs : List ℕ) (i : ℕ) → i < length xs
    → above (map f (take (i + 1) xs)) ≡ max (above (map f (take i xs))) (f (get_or xs i 0) + 1)
above_more f xs i h = ap above (map_more f xs i 0 h) ∙ above_push (map f (take i xs)) (f (get_or xs i 0))

above_bound : (f : ℕ → ℕ) (most : ℕ) → ((k : ℕ) → f k ≤ most) → (xs : List ℕ) → above (map f xs) ≤ most + 1
above_bound f most bound [] = omega arith
above_bound f most bound (x ∷ xs) = let a = bound x in let b = above_bound f most bound xs in omega arith

-- ---- levels are the lengths of the longest chains

above_member : (level : ℕ → ℕ) (xs : List ℕ) (k : ℕ) → k < length xs
    → level (get_or xs k 0) + 1 ≤ above (map level xs)
above_member level [] k h = absurd (omega arith)
above_member level (x ∷ xs) zero h = omega arith
above_member level (x ∷ xs) (suc k) h = let rest = above_member level xs k (omega arith) in omega arith

above_some : (level : ℕ → ℕ) (xs : List ℕ) (k : ℕ) → k + 1 ≤ above (map level xs)
    → (j : ℕ) × Contains xs j × (k ≤ level j)
above_some level [] k h = absurd (omega arith)
above_some level (x ∷ xs) k h = elim (cases_lt (level x) k) [
  | inl low ↦
      let rest = above_some level xs k (omega arith) in
      (rest.0, Contains-tail x rest.0 xs rest.1, rest.2)
  | inr high ↦ (x, Contains-head x xs, high)
]

module _ (to : ℕ → List ℕ) (count : ℕ) (within : IsWithin to count) (level : ℕ → ℕ)
    (levels : AreLevels to count level) where
  steps_within : (k i : ℕ) → i < count → HasSteps to k i → k ≤ level i
  steps_within zero i h steps = omega arith
  steps_within (suc k) i h steps =
      let j = steps.0 in
      let c = steps.1 in
      let near : k ≤ level j = steps_within k j (within.each i j c) steps.2 in
      let is : get_or (to i) c.0 0 ≡ j = get_or_default (to i) c.0 0 j c.1 ∙ c.2 in
      let most : level j + 1 ≤ above (map level (to i)) =
      subst (λ x. level x + 1 ≤ above (map level (to i))) is (above_member level (to i) c.0 c.1) in
      let e = levels.each i h in
      omega arith

  within_steps : (k i : ℕ) → i < count → k ≤ level i → HasSteps to k i
  within_steps zero i h near = tt
  within_steps (suc k) i h near =
      let e = levels.each i h in
      let some = above_some level (to i) k (omega arith) in
      (some.0, some.1, within_steps k some.0 (within.each i some.0 some.1) some.2)

  pub level_steps : (k i : ℕ) → i < count → HasSteps to k i ↔ (k ≤ level i)
  level_steps k i h = (steps_within k i h, within_steps k i h)

-- ---- levels that were found so far

-- those of the first shapes of an order
pub record AreLeveled (to : ℕ → List ℕ) (count : ℕ) (order : List ℕ) (place : ℕ) (levels : List ℕ)
    : Type 0 where
  pub long : length levels ≡ count
  pub found : (x : ℕ) → Contains (take place order) x
      → get_or levels x 0 ≡ above (map (λ j. get_or levels j 0) (to x))
  pub bound : (k : ℕ) → get_or levels k 0 ≤ place

-- what a shape of the order refers to is a shape
pub refs_within : (to : ℕ → List ℕ) (count : ℕ) (order : List ℕ) → IsOrdered to order → HasEach count order
    → (place : ℕ) → place < length order → (k : ℕ) → k < length (to (get_or order place 0))
    → get_or (to (get_or order place 0)) k 0 < count
refs_within to count order ordered each place here k h =
    let x = get_or order place 0 in
    let j = get_or (to x) k 0 in
    let at = taken order place j (omega arith) (ordered.behind place here j (Contains-get_or (to x) k 0 h)) in
    subst (λ i. i < count) at.2 (shape_within count order each at.0 (let n = at.1 in omega arith))

pub leveled_end : (to : ℕ → List ℕ) (count : ℕ) (order : List ℕ) → HasEach count order
    → (place : ℕ) (levels : List ℕ) → length order ≤ place → AreLeveled to count order place levels
    → AreLevels to count (λ i. get_or levels i 0)
leveled_end to count order each place levels far leveled = record {
  each = λ i h. leveled.found i
      (subst (λ (w : List ℕ). Contains w i) (sym (take_all place order far)) ((each.each i).1 h));
}

-- the level of the next is written
module _ (to : ℕ → List ℕ) (count : ℕ) (order : List ℕ) (ordered : IsOrdered to order)
    (distinct : IsDistinct nat_eq order) (each : HasEach count order) (place : ℕ)
    (here : place < length order) (levels : List ℕ) (level : ℕ)
    (leveled : AreLeveled to count order place levels)
    (is : level ≡ above (map (λ j. get_or levels j 0) (to (get_or order place 0)))) where
  abbrev next : ℕ
  next = get_or order place 0

  abbrev more : List ℕ
  more = set levels next level

  -- it is not among those before it
  same : (y : ℕ) → Contains (take place order) y → get_or levels y 0 ≡ get_or more y 0
  same y c =
      let at = taken order place y (omega arith) c in
      sym (get_or-set_other levels next y level 0
      (λ e. apart order distinct at.0 place at.1 here (at.2 ∙ e)))

  same_above : (x : ℕ) → ((j : ℕ) → Refers to x j → Contains (take place order) j)
      → above (map (λ j. get_or levels j 0) (to x)) ≡ above (map (λ j. get_or more j 0) (to x))
  same_above x all =
      ap above (map_agree (λ j. get_or levels j 0) (λ j. get_or more j 0) (to x) (λ j r. same j (all j r)))

  more_at : get_or more next 0 ≡ level
  more_at =
      let below : next < length levels =
      (let a = shape_within count order each place here in let b = leveled.long in omega arith) in
      get_or-set_same levels next level 0 below

  more_bound : (k : ℕ) → get_or more k 0 ≤ place + 1
  more_bound k = elim (nat_eq k next) as (λ b. nat_eq k next ≡ b → get_or more k 0 ≤ place + 1) [
    | true ↦ λ e.
        let most = above_bound (λ j. get_or levels j 0) place leveled.bound (to next) in
        let at = more_at in
        let level_is = is in
        let low : get_or more next 0 ≤ place + 1 = omega arith in
        subst (λ k. get_or more k 0 ≤ place + 1) (sym (eqb-true k next e)) low
    | false ↦ λ e.
        let differs : k ≢ next = (λ same. true≢false (sym (eq-eqb k next same) ∙ e)) in
        let kept = get_or-set_other levels next k level 0 differs in
        let old = leveled.bound k in
        omega arith
  ] refl

  pub leveled_more : AreLeveled to count order (place + 1) (set levels (get_or order place 0) level)
  leveled_more = record {
    long = length-set levels next level ∙ leveled.long;
    found = λ y c.
        elim (Contains-push_cases (take place order) next y
        (subst (λ (w : List ℕ). Contains w y) (take_more order place 0 here) c)) [
          | inl c ↦ sym (same y c) ∙ leveled.found y c
              ∙ same_above y (λ j r. led to order ordered place y j (omega arith) c r)
          | inr e ↦ subst (λ y. get_or more y 0 ≡ above (map (λ j. get_or more j 0) (to y))) e
              (more_at ∙ is ∙ same_above next (λ j r. ordered.behind place here j r))
        ];
    bound = more_bound;
  }
