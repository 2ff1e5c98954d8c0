-- The way of a search.
use Rattle.std.specs.Prelude.{ℕ, List, map}
use Rattle.shape_order.specs.declared.visits.Visit.{Visit}

-- the shapes on it
abbrev pub way_of : List Visit → List ℕ
way_of visits = map (λ v. v.shape) visits
