-- sh:class (SHACL, section 4.1.1).
use Rattle.std.specs.Prelude.{ℕ, Bool, ◌&&◌, List, [], flat_map, if◌then◌else◌}
use Rattle.shx_term.specs.TermKinds.{is_node}
use Rattle.graph_view.specs.declared.key.Key.{Key}
use Rattle.graph_view.specs.Graph.{Graph}
use Rattle.path_eval.specs.declared.direction.Direction.TheVariants.{Forward}
use Rattle.path_eval.specs.Instances.{instance_route, is_instance}
use Rattle.path_eval.specs.Values.{path_reads}
use Rattle.comp_core.specs.declared.pair.At.{At}
use Rattle.comp_core.specs.declared.row.ResultRow.{ResultRow}
use Rattle.comp_core.specs.declared.kinds.TheConstants.{CLASS}
use Rattle.value_components.specs.declared.class.Class.{Class}
use Rattle.comp_core.specs.Results.{each_unless}

-- an IRI or a blank node, and an instance of the class
abbrev pub is_of_class : Graph → ℕ → ℕ → Bool
is_of_class g class node = is_node g.terms node && is_instance g node class

-- a result for each value node that is a literal or no instance
abbrev pub class_hits : Class → Graph → At → List ℕ → List ResultRow
class_hits c g at vs = each_unless (is_of_class g c.value) CLASS at vs

-- of a literal nothing is read
abbrev pub class_reads_at : Graph → ℕ → List Key
class_reads_at g node = if is_node g.terms node then path_reads g Forward instance_route node else []

abbrev pub class_reads : Graph → List ℕ → List Key
class_reads g vs = flat_map (class_reads_at g) vs
