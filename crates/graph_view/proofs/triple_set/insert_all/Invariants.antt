use Rattle.std.proofs.Common.{◌≡◌, ◌≤◌, length, take}
use Rattle.shx_term.specs.Members.{Adds}
use Rattle.graph_view.proofs.triple_set.insert_all.Given as goal

abbrev pub invariant-loop-t : goal.invariant-loop-t
invariant-loop-t l =
    Adds l.fn.triples.keys l.triples.keys (take l.t-index l.added)
    × (length l.fn.triples.keys ≤ length l.triples.keys)
    × (take (length l.fn.triples.keys) l.triples.keys ≡ l.fn.triples.keys)
