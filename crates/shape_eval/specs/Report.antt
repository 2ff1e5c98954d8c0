-- The report of a graph (SHACL, section 3.4): what is validated, and the results in order, nothing merged.
use Rattle.std.specs.Prelude.{ℕ, List, map, flat_map}
use Rattle.graph_view.specs.Graph.{Graph}
use Rattle.comp_core.specs.declared.pair.Pair.{Pair}
use Rattle.comp_core.specs.declared.row.ResultRow.{ResultRow}
use Rattle.shape_eval.specs.Plan.{Planned}
use Rattle.shape_eval.specs.Results.{results}
use Rattle.shape_eval.specs.Targets.{target_nodes}

abbrev pub at_shape : ℕ → ℕ → Pair
at_shape n node = record { shape = n; node = node }

-- each targeted shape with each of its target nodes
abbrev pub pairs : Planned → Graph → List Pair
pairs plan g = flat_map (λ n. map (at_shape n) (target_nodes plan.shapes g n)) plan.targeted

-- the results of each pair, pair by pair
abbrev pub report : Planned → Graph → List ResultRow
report plan g = flat_map (results plan.shapes g) (pairs plan g)
