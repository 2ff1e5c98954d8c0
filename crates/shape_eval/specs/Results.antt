-- The results of a shape at a node, and what is read for them (SHACL, section 3.4).
use Rattle.std.specs.Prelude.{ℕ, zero, suc, List, [], ◌∷◌, ◌++◌, Option, Some, None, flat_map, length}
use Rattle.std.specs.Prelude.{slice_get}
use Rattle.std.specs.Prelude.{if◌then◌else◌}
use Rattle.graph_view.specs.declared.key.Key.{Key}
use Rattle.graph_view.specs.Graph.{Graph}
use Rattle.path_eval.specs.declared.direction.Direction.TheVariants.{Forward}
use Rattle.path_eval.specs.declared.path.Path.{Path}
use Rattle.path_eval.specs.Route.{route_of}
use Rattle.path_eval.specs.Values.{path_reads, path_values}
use Rattle.comp_core.specs.declared.pair.Pair.{Pair}
use Rattle.comp_core.specs.declared.pair.At.{At}
use Rattle.comp_core.specs.declared.row.ResultRow.{ResultRow}
use Rattle.shape_eval.specs.declared.constraint.Constraint.{Constraint}
use Rattle.shape_eval.specs.declared.shape.PlanShape.{PlanShape}
use Rattle.shape_eval.specs.Constraint.{constraint_hits, constraint_reads}

-- ---- one shape at a node, by what is told of the shapes that it names

-- the value nodes: of a property shape those to which its path leads, of a node shape the node itself
abbrev pub value_nodes : Graph → Option Path → ℕ → List ℕ
value_nodes g None node = node ∷ []
value_nodes g (Some path) node = path_values g (route_of path) node

-- what is read to find them
abbrev pub value_reads : Graph → Option Path → ℕ → List Key
value_reads g None node = []
value_reads g (Some path) node = path_reads g Forward (route_of path) node

abbrev pub at_of : Pair → At
at_of p = record { focus = p.node; shape = p.shape }

-- the results of some constraints at value nodes, constraint by constraint
abbrev pub hits_of_each : Graph → (Pair → List ResultRow) → List Constraint → At → List ℕ → List ResultRow
hits_of_each g m cs at vs = flat_map (λ c. constraint_hits c g m at vs) cs

-- what they read
abbrev pub reads_of_each : Graph → (Pair → List Key) → List Constraint → At → List ℕ → List Key
reads_of_each g r cs at vs = flat_map (λ c. constraint_reads c g r at vs) cs

-- a deactivated shape has no results, and neither has what is no shape
abbrev pub shape_results : Graph → (Pair → List ResultRow) → Option PlanShape → Pair → List ResultRow
shape_results g m None p = []
shape_results g m (Some sh) p =
    if sh.deactivated then []
    else hits_of_each g m sh.constraints.items (at_of p) (value_nodes g sh.path p.node)

abbrev pub shape_reads : Graph → (Pair → List Key) → Option PlanShape → Pair → List Key
shape_reads g r None p = []
shape_reads g r (Some sh) p =
    if sh.deactivated then []
    else value_reads g sh.path p.node
    ++ reads_of_each g r sh.constraints.items (at_of p) (value_nodes g sh.path p.node)

-- ---- by levels: what is told of the shapes that a shape names are their results one level below

abbrev pub results_within : ℕ → List PlanShape → Graph → Pair → List ResultRow
results_within zero shapes g p = []
results_within (suc k) shapes g p = shape_results g (results_within k shapes g) (slice_get shapes p.shape) p

abbrev pub reads_within : ℕ → List PlanShape → Graph → Pair → List Key
reads_within zero shapes g p = []
reads_within (suc k) shapes g p = shape_reads g (reads_within k shapes g) (slice_get shapes p.shape) p

-- as many levels as there are shapes, which is more than any shape has below it
abbrev pub results : List PlanShape → Graph → Pair → List ResultRow
results shapes g p = results_within (length shapes) shapes g p

abbrev pub pair_reads : List PlanShape → Graph → Pair → List Key
pair_reads shapes g p = reads_within (length shapes) shapes g p
