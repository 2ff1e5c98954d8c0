-- How deep a path nests that is read.
use Rattle.std.specs.Prelude.{◌≡◌, ℕ, ◌≤◌}
use Rattle.shx_term.specs.declared.limits.Limits.{Limits}
use Rattle.graph_view.specs.Graph.{Graph}
use Rattle.path_eval.specs.Route.{Route, nesting}
use Rattle.shape_decl.specs.PathReadings.{Read, path_reading}

abbrev pub PathsNestWithinTheirLimit : Type 0
PathsNestWithinTheirLimit =
    (limits : Limits) (g : Graph) (head : ℕ) (route : Route) → path_reading limits g head ≡ Read route
    → nesting route ≤ limits.path_depth
