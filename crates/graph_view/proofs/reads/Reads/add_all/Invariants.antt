use Rattle.std.specs.Prelude.{take}
use Rattle.shx_term.specs.Members.{Adds}
use Rattle.graph_view.proofs.reads.Reads.add_all.Given as goal

abbrev pub invariant-loop-key : goal.invariant-loop-key
invariant-loop-key l = Adds l.fn.self l.self (take l.key-index l.key-items)
