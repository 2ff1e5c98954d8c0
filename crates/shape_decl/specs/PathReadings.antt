-- What is read where a path is expected: a path, or why there is none within the limits.
use Rattle.std.specs.Prelude.{ℕ, ◌+◌, zero, suc, nat_lt, ◌||◌, List, [], ◌∷◌, map, flat_map}
use Rattle.std.specs.Prelude.{Option, Some, None, Result, Ok, Err, if◌then◌else◌}
use Rattle.shx_term.specs.declared.limits.Limits.{Limits}
use Rattle.graph_view.specs.Graph.{Graph}
use Rattle.path_eval.specs.Route.{Route, along, none, turned, any_times, some_times, perhaps, sequence}
use Rattle.path_eval.specs.Route.{alternative, route_of}
use Rattle.shape_decl.specs.declared.path_reading.PathReading.{PathReading}
use Rattle.shape_decl.specs.declared.path_reading.PathReading.TheVariants as reading
use Rattle.shape_decl.specs.declared.path_fault.PathFault.{PathFault}
use Rattle.shape_decl.specs.declared.path_fault.PathFault.TheVariants as fault
use Rattle.shape_decl.specs.PathForms.{PathForm, Predicate, Sequence, Alternative, Inverse, ZeroOrMore}
use Rattle.shape_decl.specs.PathForms.{OneOrMore, ZeroOrOne, Formless, form_of, parts_in}

-- ---- the nodes of a path

pub record Met : Type 0 where
  pub node : ℕ
  pub depth : ℕ

-- the nodes that are met where a path is unfolded depth first, down to so many levels, with their depth
abbrev pub unfolded : Graph → ℕ → ℕ → ℕ → List Met
unfolded g zero depth node = []
unfolded g (suc levels) depth node =
    record { node = node; depth = depth }
    ∷ flat_map (unfolded g levels (depth + 1)) (parts_in (form_of g node))

-- ---- the first of them that is at fault

abbrev pub fault_of_form : PathForm → Option PathFault
fault_of_form Formless = Some fault.Broken
fault_of_form form = None

-- too deep, or one part too many, or none of the forms; so many were met before
abbrev pub fault_of : Limits → Graph → ℕ → Met → Option PathFault
fault_of limits g before met =
    if nat_lt limits.path_depth met.depth || nat_lt limits.path_parts (before + 1)
    then Some fault.TooDeep
    else fault_of_form (form_of g met.node)

abbrev pub unless_fault : Option PathFault → Result ℕ PathFault → Result ℕ PathFault
unless_fault (Some fault) counted = Err fault
unless_fault None counted = counted

-- how many parts there are, or the fault of the first that has one
abbrev pub parts_or_fault : Limits → Graph → ℕ → List Met → Result ℕ PathFault
parts_or_fault limits g before [] = Ok before
parts_or_fault limits g before (met ∷ more) =
    unless_fault (fault_of limits g before met) (parts_or_fault limits g (before + 1) more)

-- ---- the path itself

abbrev pub route_by : (ℕ → Route) → ℕ → PathForm → Route
route_by inner node Predicate = along node
route_by inner node (Sequence nodes) = sequence (map inner nodes)
route_by inner node (Alternative nodes) = alternative (map inner nodes)
route_by inner node (Inverse inside) = turned (inner inside)
route_by inner node (ZeroOrMore inside) = any_times (inner inside)
route_by inner node (OneOrMore inside) = some_times (inner inside)
route_by inner node (ZeroOrOne inside) = perhaps (inner inside)
route_by inner node Formless = none

-- the path that a node is, down to so many levels
abbrev pub route_at : Graph → ℕ → ℕ → Route
route_at g zero node = none
route_at g (suc levels) node = route_by (route_at g levels) node (form_of g node)

-- ---- what is read

pub data RouteReading : Type 0 where
  Read : Route → RouteReading
  Broken : RouteReading
  TooDeep : RouteReading

abbrev pub read_unless : Route → Result ℕ PathFault → RouteReading
read_unless route (Ok parts) = Read route
read_unless route (Err fault.TooDeep) = TooDeep
read_unless route (Err fault) = Broken

abbrev pub path_reading : Limits → Graph → ℕ → RouteReading
path_reading limits g head =
    read_unless (route_at g limits.path_depth head)
    (parts_or_fault limits g 0 (unfolded g (suc limits.path_depth) 1 head))

-- what a reading of the code says
abbrev pub told_reading : PathReading → RouteReading
told_reading (reading.Path path) = Read (route_of path)
told_reading reading.Broken = Broken
told_reading reading.TooDeep = TooDeep
