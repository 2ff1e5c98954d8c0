use Rattle.std.specs.Prelude.{◌≡◌, map, take}
use Rattle.path_eval.specs.Route.{route_of}
use Rattle.path_eval.proofs.path.+copy.Given as goal

abbrev pub invariant-copy_all-loop-path : goal.invariant-copy_all-loop-path
invariant-copy_all-loop-path l = map route_of l.copies.items ≡ map route_of (take l.path-index l.paths)
