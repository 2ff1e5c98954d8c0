-- What changed triples tell of targets: the nodes that they may make target nodes, or leave none.
use Rattle.std.specs.Prelude.{◌≡◌, ℕ, Bool, true, false, not, ◌&&◌, nat_eq, List, [], ◌++◌, flat_map}
use Rattle.std.specs.Prelude.{Option, Some, None, if◌then◌else◌}
use Rattle.std.specs.List.{list_any}
use Rattle.std.specs.Option.{option_to_list}
use Rattle.shx_term.specs.declared.triple.Triple.{Triple}
use Rattle.shx_term.specs.declared.vocabulary.TheConstants.{RDF_TYPE, RDFS_SUB_CLASS_OF}
use Rattle.graph_view.specs.declared.key.Key.TheVariants.{Out, In}
use Rattle.graph_view.specs.Graph.{Graph}
use Rattle.graph_view.specs.Key.{look}
use Rattle.comp_core.specs.Rows.{is_empty}
use Rattle.path_eval.specs.declared.direction.Direction.TheVariants.{Backward}
use Rattle.path_eval.specs.Instances.{instance_route, is_instance}
use Rattle.path_eval.specs.Route.{Route, along, any_times, turned}
use Rattle.path_eval.specs.Values.{nodes_reached}
use Rattle.shape_eval.specs.declared.target.Target.{Target}
use Rattle.shape_eval.specs.declared.target.Target.TheVariants as target

-- ---- triples

abbrev pub is_subclass : Triple → Bool
is_subclass t = nat_eq t.p RDFS_SUB_CLASS_OF

-- from a class to its subclasses, and to itself
abbrev pub subclass_route : Route
subclass_route = any_times (turned (along RDFS_SUB_CLASS_OF))

abbrev pub is_class : Target → Bool
is_class (target.Node node) = false
is_class (target.Class class) = true
is_class (target.SubjectsOf p) = false
is_class (target.ObjectsOf p) = false

-- no subclass is stated or taken back
abbrev pub NoSubclass : List Triple → Type 0
NoSubclass changed = list_any is_subclass changed ≡ false

-- the node of which a triple tells itself whether it is a target node
abbrev pub node_told : Target → Triple → Option ℕ
node_told (target.Node node) t = None
node_told (target.Class class) t = if nat_eq t.p RDF_TYPE then Some t.s else None
node_told (target.SubjectsOf p) t = if nat_eq t.p p then Some t.s else None
node_told (target.ObjectsOf p) t = if nat_eq t.p p then Some t.o else None

-- the nodes of which a subclass tells, where there are classes: the instances of the subclass
abbrev pub instances_told : Graph → List Target → Triple → List ℕ
instances_told g targets t =
    if is_subclass t && list_any is_class targets then nodes_reached g Backward instance_route t.s else []

-- all of which a triple tells, as far as the targets go
abbrev pub told_by : Graph → List Target → Triple → List ℕ
told_by g targets t = flat_map (λ a. option_to_list (node_told a t)) targets ++ instances_told g targets t

abbrev pub nodes_told : Graph → List Target → List Triple → List ℕ
nodes_told g targets changed = flat_map (told_by g targets) changed

-- ---- target nodes, tested one by one

abbrev pub is_node_of : Graph → ℕ → Target → Bool
is_node_of g node (target.Node other) = nat_eq other node
is_node_of g node (target.Class class) = is_instance g node class
is_node_of g node (target.SubjectsOf p) = not (is_empty (look g.triples (Out node p)))
is_node_of g node (target.ObjectsOf p) = not (is_empty (look g.triples (In p node)))

abbrev pub is_node_of_any : Graph → List Target → ℕ → Bool
is_node_of_any g targets node = list_any (is_node_of g node) targets

-- a target node in the first graph, and none in the second
abbrev pub is_only_in : Graph → Graph → List Target → ℕ → Bool
is_only_in g h targets node = is_node_of_any g targets node && not (is_node_of_any h targets node)
