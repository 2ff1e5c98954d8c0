-- Which plans may be asked of a graph.
use Rattle.std.specs.Prelude.{◌<◌, nat_eq, length, All}
use Rattle.std.specs.List.{IsDistinct}
use Rattle.graph_view.specs.Graph.{Graph}
use Rattle.graph_view.specs.Valid.{IsValidView}
use Rattle.shape_eval.specs.Plan.{IsKnownPlan, Planned, RefersLower}

-- the graph is valid, the numbers of the plan have terms in it, and each targeted shape is one of the plan's,
-- once
pub record MayBeAsked (plan : Planned) (g : Graph) : Type 0 where
  pub valid : IsValidView g
  pub known : IsKnownPlan g.terms plan.shapes
  pub refers : RefersLower plan.shapes
  pub within : All (λ n. n < length plan.shapes) plan.targeted
  pub once : IsDistinct nat_eq plan.targeted
