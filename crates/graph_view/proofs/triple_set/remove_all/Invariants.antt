use Rattle.std.specs.Prelude.{take}
use Rattle.shx_term.specs.Triple.{same_triple}
use Rattle.shx_term.specs.Members.{SameMembers}
use Rattle.graph_view.specs.Patched.{without}
use Rattle.graph_view.proofs.triple_set.remove_all.Given as goal

abbrev pub invariant-loop-t : goal.invariant-loop-t
invariant-loop-t l =
    SameMembers l.triples.keys (without same_triple l.fn.triples.keys (take l.t-index l.removed))
