-- What is known of the shapes that were put in order so far.
use Rattle.std.specs.Prelude.{ℕ, ◌<◌, List, Contains}
use Rattle.shape_order.specs.Order.{IsOrdered}

-- these are in order, and no others were met
pub record AreNumbered (to : ℕ → List ℕ) (count : ℕ) (order seen : List ℕ) : Type 0 where
  pub ordered : IsOrdered to order
  pub within : (y : ℕ) → Contains order y → y < count
  pub met : (y : ℕ) → Contains seen y → Contains order y

-- the root is there now, and those that were there
pub record HasAlso (before order : List ℕ) (shape : ℕ) : Type 0 where
  pub here : Contains order shape
  pub kept : (y : ℕ) → Contains before y → Contains order y
