use Rattle.std.proofs.Common.{◌≡◌, ◌++◌}
use Rattle.std.specs.Prelude.{take, flat_map}
use Rattle.qualified_shapes.specs.Closed.{closed_hit}
use Rattle.qualified_shapes.proofs.triples.check_triples.Given as goal

abbrev pub invariant-loop-t : goal.invariant-loop-t
invariant-loop-t l =
    l.out.items
    ≡ l.fn.out.items ++ flat_map (closed_hit l.permitted l.ignored l.at) (take l.t-index l.triples)
