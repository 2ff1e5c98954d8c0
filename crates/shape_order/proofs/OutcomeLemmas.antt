-- When shapes have an order, and when not.
use Rattle.std.specs.Prelude.{◌≡◌, ℕ, suc, ◌<◌, ◌≤◌, nat_eq, List, length, slice_index, Vec, Ok, Err}
use Rattle.std.specs.List.{IsDistinct}
use Rattle.std.specs.declared.alloc.Global.{Global}
use Rattle.std.proofs.Common.{arith, subst, sym}
use Rattle.shape_order.specs.declared.ordering.Numbering.{Numbering}
use Rattle.shape_order.specs.declared.ordering.OrderFault.TheVariants.{Recursive, TooDeep}
use Rattle.shape_order.specs.Chain.{IsLeastCycle, IsRecursive}
use Rattle.shape_order.specs.Levels.{AreLevels, HasSteps}
use Rattle.shape_order.specs.Order.{HasEach, IsOrdered}
use Rattle.shape_order.specs.Outcome.{IsExact, IsLeastTooDeep, IsNumbering}
use Rattle.shape_order.specs.Refs.{IsWithin, refs_of}
use Rattle.shape_order.specs.inner.FirstAbove.{IsFirstAbove}
use Rattle.shape_order.specs.inner.Placed.{ArePlaced}
use Rattle.shape_order.proofs.LeastLemmas.{recursive_below, refers_below}
use Rattle.shape_order.proofs.LevelLemmas.{level_steps}
use Rattle.shape_order.proofs.OrderLemmas.{none_recursive}
use Rattle.shape_order.proofs.PlacedLemmas.{order_long, places_stand, places_within, places_lower}

module _ (refs : List (Vec ℕ Global)) where
  steps_below : (k i : ℕ) → HasSteps (refs_of refs) (suc k) i → i < length refs
  steps_below k i steps = refers_below refs i steps.0 steps.1

  module _ (order : List ℕ) (ordered : IsOrdered (refs_of refs) order) (distinct : IsDistinct nat_eq order)
      (each : HasEach (length refs) order) where
    -- of shapes that are all in order, none reaches itself
    none_of_all : (i : ℕ) → IsRecursive (refs_of refs) i → ⊥
    none_of_all i longer =
        let below = recursive_below refs i longer in
        none_recursive (refs_of refs) order ordered distinct i ((each.each i).1 below) longer

    pub least_too_deep : IsWithin (refs_of refs) (length refs) → (limit : ℕ) (level : ℕ → ℕ) (shape : ℕ)
        → AreLevels (refs_of refs) (length refs) level → IsFirstAbove limit (length refs) level shape
        → IsLeastTooDeep (refs_of refs) limit shape
    least_too_deep within limit level shape levels first =
        let steps_are = level_steps (refs_of refs) (length refs) within level levels (suc limit) in
        record {
          none = none_of_all;
          deep = (steps_are shape first.within).1 (let h = first.above in omega arith);
          least = λ i h steps.
              let high = (steps_are i (steps_below limit i steps)).0 steps in
              let low = first.before i h in
              omega arith;
        }

  pub exact_numbering : (limit : ℕ) → IsWithin (refs_of refs) (length refs) → (n : Numbering)
      → IsNumbering (refs_of refs) (length refs) limit n → IsExact (refs_of refs) limit (Ok n)
  exact_numbering limit within n is =
      let level = slice_index n.levels.items in
      let steps_are = level_steps (refs_of refs) (length refs) within level is.levels (suc limit) in
      record {
        recursive = (
          λ no_case. absurd no_case,
          λ some. none_of_all n.order.items is.ordered is.distinct is.each some.0 some.1,
        );
        too_deep = (
          λ no_case. absurd no_case,
          λ some.
              let i = some.1.0 in
              let below : i < length refs = steps_below limit i some.1.1 in
              let high = (steps_are i below).0 some.1.1 in
              let low = is.shallow i below in
              omega arith,
        );
      }

  pub exact_cycle : (limit : ℕ) (cycle : Vec ℕ Global) → IsLeastCycle (refs_of refs) cycle.items
      → IsExact (refs_of refs) limit (Err (Recursive cycle))
  exact_cycle limit cycle is = record {
    recursive = (λ _. (_, is.recursive), λ _. tt);
    too_deep = (λ no_case. absurd no_case, λ some. absurd (some.0 _ is.recursive));
  }

  pub exact_too_deep : (limit shape : ℕ) → IsLeastTooDeep (refs_of refs) limit shape
      → IsExact (refs_of refs) limit (Err (TooDeep shape))
  exact_too_deep limit shape is = record {
    recursive = (λ no_case. absurd no_case, λ some. is.none some.0 some.1);
    too_deep = (λ _. (is.none, (shape, is.deep)), λ _. tt);
  }

pub numbering_of : (to : ℕ → List ℕ) (count limit : ℕ) (n : Numbering) → IsOrdered to n.order.items
    → IsDistinct nat_eq n.order.items → HasEach count n.order.items
    → ArePlaced count n.order.items (length n.order.items) n.places.items → length n.levels.items ≡ count
    → AreLevels to count (slice_index n.levels.items)
    → ((i : ℕ) → i < count → slice_index n.levels.items i ≤ limit) → IsNumbering to count limit n
numbering_of to count limit n ordered distinct each placed long levels shallow =
    let order = n.order.items in
    let places = n.places.items in
    let whole : length order ≡ count = order_long count order distinct each places placed in
    record {
      ordered = ordered;
      distinct = distinct;
      each = each;
      long = whole;
      places_long = placed.long;
      inverse = λ k h. placed.found k (subst (λ m. k < m) (sym whole) h);
      stands = places_stand count order distinct each places placed;
      within = places_within count order distinct each places placed;
      lower = places_lower count order distinct each places placed to ordered;
      levels_long = long;
      levels = levels;
      shallow = shallow;
    }
