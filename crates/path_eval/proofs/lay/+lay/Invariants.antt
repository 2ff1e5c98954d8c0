use Rattle.std.specs.Prelude.{◌++◌, map, drop}
use Rattle.path_eval.specs.Route.{alternative, route_of, sequence}
use Rattle.path_eval.specs.inner.Laid.{after, laid}
use Rattle.path_eval.proofs.LayLemmas.{Completes}
use Rattle.path_eval.proofs.lay.+lay.Given as goal

abbrev pub invariant-lay_members-loop-member : goal.invariant-lay_members-loop-member
invariant-lay_members-loop-member l =
    let whole = alternative (map route_of l.members) in
    let old = l.initial.edges in
    Completes l.direction (alternative (map route_of (drop l.member-index l.members))) l.from l.to l.edges
    (old.edges.items ++ laid l.direction whole l.from l.to old.places) (after whole old.places)

abbrev pub invariant-lay_parts-loop-part : goal.invariant-lay_parts-loop-part
invariant-lay_parts-loop-part l =
    let whole = sequence (map route_of l.parts) in
    let old = l.initial.edges in
    Completes l.direction (sequence (map route_of (drop l.part-index l.parts))) l.start l.end l.edges
    (old.edges.items ++ laid l.direction whole l.from l.to old.places) (after whole old.places)
