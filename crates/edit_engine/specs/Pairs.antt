-- The pairs of some shapes.
use Rattle.std.specs.Prelude.{ℕ, ◌<◌, List, map, flat_map, length}
use Rattle.graph_view.specs.Graph.{Graph}
use Rattle.comp_core.specs.declared.pair.Pair.{Pair}
use Rattle.shape_eval.specs.declared.shape.PlanShape.{PlanShape}
use Rattle.shape_eval.specs.Report.{at_shape}
use Rattle.shape_eval.specs.Targets.{target_nodes}

-- each shape with each of its target nodes; those of the targeted shapes are the pairs of a plan
abbrev pub pairs_of : List PlanShape → List ℕ → Graph → List Pair
pairs_of shapes ns g = flat_map (λ n. map (at_shape n) (target_nodes shapes g n)) ns

-- the shape is one of these, and the node has a term
pub record IsKnownPair (shapes : List PlanShape) (g : Graph) (p : Pair) : Type 0 where
  pub shape : p.shape < length shapes
  pub node : p.node < length g.terms
