use Rattle.std.proofs.Common.{◌≡◌, ◌++◌}
use Rattle.std.specs.Prelude.{take}
use Rattle.comp_core.specs.Asking.{pairs_at}
use Rattle.comp_core.proofs.asking.ask_at.Given as goal

abbrev pub invariant-loop-shape : goal.invariant-loop-shape
invariant-loop-shape l = l.out.items ≡ l.fn.out.items ++ pairs_at (take l.shape-index l.shapes) l.node
