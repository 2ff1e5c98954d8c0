-- What is read as a path nests no deeper than its limit.
use Rattle.std.specs.Prelude.{◌≡◌, ℕ, ◌+◌, ◌≤◌, zero, suc, List, [], ◌∷◌, map, Ok, Err, Result}
use Rattle.std.proofs.Common.{subst, arith}
use Rattle.graph_view.specs.Graph.{Graph}
use Rattle.path_eval.specs.Route.{Route, sequence, alternative, nesting}
use Rattle.shape_decl.specs.declared.path_fault.PathFault.{PathFault}
use Rattle.shape_decl.specs.declared.path_fault.PathFault.TheVariants as fault
use Rattle.shape_decl.specs.Nesting.{PathsNestWithinTheirLimit}
use Rattle.shape_decl.specs.PathForms.{PathForm, Predicate, Sequence, Alternative, Inverse, ZeroOrMore}
use Rattle.shape_decl.specs.PathForms.{OneOrMore, ZeroOrOne, Formless, form_of}
use Rattle.shape_decl.specs.PathReadings.{Read, parts_or_fault, read_unless, route_at}
use Rattle.shape_decl.specs.PathReadings.{route_by, unfolded}

module _ (inner : ℕ → Route) (n : ℕ) (below : (node : ℕ) → nesting (inner node) ≤ n) where
  in_sequence : (nodes : List ℕ) → nesting (sequence (map inner nodes)) ≤ n + 1
  in_sequence [] = omega arith
  in_sequence (node ∷ nodes) = omega (arith, below node, in_sequence nodes)

  in_alternative : (nodes : List ℕ) → nesting (alternative (map inner nodes)) ≤ n + 1
  in_alternative [] = omega arith
  in_alternative (node ∷ nodes) = omega (arith, below node, in_alternative nodes)

  nests_by : (node : ℕ) (form : PathForm) → nesting (route_by inner node form) ≤ n + 1
  nests_by node Predicate = omega arith
  nests_by node (Sequence nodes) = in_sequence nodes
  nests_by node (Alternative nodes) = in_alternative nodes
  nests_by node (Inverse inside) = omega (arith, below inside)
  nests_by node (ZeroOrMore inside) = omega (arith, below inside)
  nests_by node (OneOrMore inside) = omega (arith, below inside)
  nests_by node (ZeroOrOne inside) = omega (arith, below inside)
  nests_by node Formless = omega arith

nests : (g : Graph) (levels node : ℕ) → nesting (route_at g levels node) ≤ levels
nests g zero node = omega arith
nests g (suc levels) node =
    let within = nests_by (route_at g levels) levels (nests g levels) node (form_of g node) in
    omega (arith, within)

pub same_route : (made : Route) (route : Route) (counted : Result ℕ PathFault)
    → read_unless made counted ≡ Read route → made ≡ route
same_route made route (Ok parts) e = cc
same_route made route (Err fault.Broken) e = cc
same_route made route (Err fault.TooDeep) e = cc
same_route made route (Err fault.Memory) e = cc

pub nests_within : PathsNestWithinTheirLimit
nests_within limits g head route is =
    let counted = parts_or_fault limits g 0 (unfolded g (suc limits.path_depth) 1 head) in
    let same = same_route (route_at g limits.path_depth head) route counted is in
    subst (λ r. nesting r ≤ limits.path_depth) same (nests g limits.path_depth head)
