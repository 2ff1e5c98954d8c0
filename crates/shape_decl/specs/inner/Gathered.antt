-- What is gathered of a graph that may be a shape.
use Rattle.std.specs.Prelude.{ℕ, List, ◌++◌, flat_map}
use Rattle.shx_term.specs.IdOrder.{in_term_order}
use Rattle.graph_view.specs.Graph.{Graph}
use Rattle.path_eval.specs.declared.direction.Direction.TheVariants.{Backward}
use Rattle.path_eval.specs.Instances.{instance_route}
use Rattle.path_eval.specs.Values.{nodes_reached}
use Rattle.shape_decl.specs.Lists.{list_of}
use Rattle.shape_decl.specs.Shapes.{members_or_none, objects_with, shape_classes, subjects_with}
use Rattle.shape_decl.specs.Tables.{shape_list_predicates, shape_predicates, subject_predicates}

-- the heads of lists of shapes, each once
abbrev pub heads : Graph → List ℕ
heads g = in_term_order g.terms (flat_map (objects_with g) shape_list_predicates)

abbrev pub members_at : Graph → ℕ → List ℕ
members_at g head = members_or_none (list_of g head)

abbrev pub gathered : Graph → List ℕ
gathered g =
    flat_map (nodes_reached g Backward instance_route) shape_classes
    ++ (flat_map (subjects_with g) subject_predicates
    ++ (flat_map (objects_with g) shape_predicates
    ++ flat_map (members_at g) (heads g)))
