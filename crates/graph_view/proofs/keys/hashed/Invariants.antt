use Rattle.std.specs.Prelude.{[], take}
use Rattle.shx_term.specs.Members.{Adds}
use Rattle.graph_view.proofs.keys.hashed.Given as goal

abbrev pub invariant-loop-key : goal.invariant-loop-key
invariant-loop-key l = Adds [] l.all.keys (take l.key-index l.keys)
