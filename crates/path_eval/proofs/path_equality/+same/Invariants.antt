use Rattle.std.specs.Prelude.{◌≡◌, map, drop}
use Rattle.std.specs.Cmp.Lexicographic.{pointwise}
use Rattle.path_eval.specs.Route.{route_of}
use Rattle.path_eval.specs.inner.SameRoute.{same_route}
use Rattle.path_eval.proofs.path_equality.+same.Given as goal

abbrev pub invariant-are_same-loop-at : goal.invariant-are_same-loop-at
invariant-are_same-loop-at l =
    pointwise same_route (map route_of (drop l.at l.a)) (map route_of (drop l.at l.b))
    ≡ pointwise same_route (map route_of l.a) (map route_of l.b)
