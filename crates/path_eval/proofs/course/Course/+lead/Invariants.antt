use Rattle.std.specs.Prelude.{◌≡◌, map, drop}
use Rattle.path_eval.specs.Route.{route_of, sequence}
use Rattle.path_eval.specs.declared.direction.Direction.TheVariants.{Forward}
use Rattle.path_eval.specs.inner.Course.{led, line_of}
use Rattle.path_eval.proofs.course.Course.+lead.Given as goal

abbrev pub invariant-lead_all-loop-path : goal.invariant-lead_all-loop-path
invariant-lead_all-loop-path l =
    led Forward (sequence (map route_of (drop l.path-index l.paths))) (line_of l.self)
    ≡ led Forward (sequence (map route_of l.paths)) (line_of l.fn.self)
