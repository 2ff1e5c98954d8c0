-- Shapes of two plans that are declared alike, where both plans number the same terms. Targets play no part.
use Rattle.std.specs.Prelude.{◌≡◌, ℕ, zero, suc, List, Option, Some, None, map, length, slice_get, Contains}
use Rattle.std.specs.Option.{option_map}
use Rattle.path_eval.specs.Route.{route_of}
use Rattle.shape_eval.specs.declared.shape.PlanShape.{PlanShape}
use Rattle.shape_eval.specs.Content.{demand_of}
use Rattle.shape_eval.specs.Plan.{nodes_of, references}

-- the same node with the same path or none, the same severity and messages, deactivated or not, and the same
-- demands in the same order; the shapes that these name are compared by their nodes
pub record IsSameShape (old new : List ℕ) (before after : PlanShape) : Type 0 where
  pub node : before.node ≡ after.node
  pub path : option_map route_of before.path ≡ option_map route_of after.path
  pub severity : before.severity ≡ after.severity
  pub messages : before.messages.items ≡ after.messages.items
  pub deactivated : before.deactivated ≡ after.deactivated
  pub demands : map (demand_of old) before.constraints.items ≡ map (demand_of new) after.constraints.items

-- an old shape and a new one are the same, and each that the new one names, siblings included, is alike with
-- an old one
pub record IsAlike (Below : ℕ → ℕ → Type 0) (old new : List PlanShape) (m n : ℕ) : Type 0 where
  pub before : PlanShape
  pub after : PlanShape
  pub old_is : slice_get old m ≡ Some before
  pub new_is : slice_get new n ≡ Some after
  pub same : IsSameShape (nodes_of old) (nodes_of new) before after
  pub named : (j : ℕ) → Contains (references new n) j → (i : ℕ) × Below i j

-- by levels of shapes that name shapes
abbrev pub AreAlikeWithin : ℕ → List PlanShape → List PlanShape → ℕ → ℕ → Type 0
AreAlikeWithin zero old new m n = ⊥
AreAlikeWithin (suc k) old new m n = IsAlike (AreAlikeWithin k old new) old new m n

-- as many as there are shapes, which is more than any shape has below it
abbrev pub AreAlike : List PlanShape → List PlanShape → ℕ → ℕ → Type 0
AreAlike old new m n = AreAlikeWithin (length new) old new m n

-- for each new shape the old one that is alike, where one is
pub record AreAlikes (old new : List PlanShape) (alikes : List (Option ℕ)) : Type 0 where
  pub each : length alikes ≡ length new
  pub found : (m n : ℕ) → slice_get alikes n ≡ Some (Some m) → AreAlike old new m n
  pub none : (m n : ℕ) → slice_get alikes n ≡ Some None → AreAlike old new m n → ⊥
