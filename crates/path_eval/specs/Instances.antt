-- SHACL instances (SHACL, section 1.1): rdf:type, and then rdfs:subClassOf none or more times.
use Rattle.std.specs.Prelude.{ℕ, nat_eq, Bool, List, [], ◌∷◌}
use Rattle.std.specs.List.{list_any}
use Rattle.shx_term.specs.declared.triple.Triple.{Triple}
use Rattle.shx_term.specs.declared.vocabulary.TheConstants.{RDF_TYPE, RDFS_SUB_CLASS_OF}
use Rattle.graph_view.specs.Graph.{Graph}
use Rattle.path_eval.specs.declared.direction.Direction.TheVariants.{Forward}
use Rattle.path_eval.specs.Relation.{PathRelates}
use Rattle.path_eval.specs.Route.{Route, sequence, along, any_times}
use Rattle.path_eval.specs.Values.{nodes_reached}

abbrev pub instance_route : Route
instance_route = sequence (along RDF_TYPE ∷ any_times (along RDFS_SUB_CLASS_OF) ∷ [])

abbrev pub IsInstance : List Triple → ℕ → ℕ → Type 0
IsInstance ts node class = PathRelates ts instance_route node class

-- the same as a test, which computes
abbrev pub is_instance : Graph → ℕ → ℕ → Bool
is_instance g node class = list_any (nat_eq class) (nodes_reached g Forward instance_route node)
