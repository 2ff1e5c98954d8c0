use Rattle.std.proofs.Common.{◌≡◌, ◌++◌}
use Rattle.std.specs.Prelude.{take}
use Rattle.comp_core.specs.Asking.{pairs_asked}
use Rattle.comp_core.proofs.asking.ask_shapes.Given as goal

abbrev pub invariant-loop-node : goal.invariant-loop-node
invariant-loop-node l = l.out.items ≡ l.fn.out.items ++ pairs_asked l.shapes (take l.node-index l.nodes)
