-- The target nodes of a shape (SHACL, section 2.1), and what is read to find them.
use Rattle.std.specs.Prelude.{ℕ, List, [], ◌∷◌, Option, Some, None, map, flat_map, slice_get}
use Rattle.graph_view.specs.declared.key.Key.{Key}
use Rattle.graph_view.specs.declared.key.Key.TheVariants.{Predicate}
use Rattle.graph_view.specs.Graph.{Graph, triples_with}
use Rattle.shx_term.specs.IdOrder.{in_term_order}
use Rattle.path_eval.specs.declared.direction.Direction.TheVariants.{Backward}
use Rattle.path_eval.specs.Instances.{instance_route}
use Rattle.path_eval.specs.Values.{nodes_reached, path_reads}
use Rattle.shape_eval.specs.declared.shape.PlanShape.{PlanShape}
use Rattle.shape_eval.specs.declared.target.Target.{Target}
use Rattle.shape_eval.specs.declared.target.Target.TheVariants as target

-- the nodes of one target: the node that is stated, the instances of a class, the subjects of a predicate, or
-- its objects
abbrev pub nodes_of_target : Graph → Target → List ℕ
nodes_of_target g (target.Node node) = node ∷ []
nodes_of_target g (target.Class class) = nodes_reached g Backward instance_route class
nodes_of_target g (target.SubjectsOf p) = map (λ t. t.s) (triples_with g p)
nodes_of_target g (target.ObjectsOf p) = map (λ t. t.o) (triples_with g p)

abbrev pub reads_of_target : Graph → Target → List Key
reads_of_target g (target.Node node) = []
reads_of_target g (target.Class class) = path_reads g Backward instance_route class
reads_of_target g (target.SubjectsOf p) = Predicate p ∷ []
reads_of_target g (target.ObjectsOf p) = Predicate p ∷ []

-- the nodes of some targets in term order, each once
abbrev pub nodes_of_targets : Graph → List Target → List ℕ
nodes_of_targets g targets = in_term_order g.terms (flat_map (nodes_of_target g) targets)

abbrev pub targets_of : Option PlanShape → List Target
targets_of None = []
targets_of (Some sh) = sh.targets.items

-- the target nodes of a shape by its number
abbrev pub target_nodes : List PlanShape → Graph → ℕ → List ℕ
target_nodes shapes g n = nodes_of_targets g (targets_of (slice_get shapes n))

abbrev pub target_reads : List PlanShape → Graph → ℕ → List Key
target_reads shapes g n = flat_map (reads_of_target g) (targets_of (slice_get shapes n))
