use Rattle.std.proofs.Common.{◌≡◌, ◌++◌}
use Rattle.std.specs.Prelude.{take}
use Rattle.value_components.specs.InList.{in_hits}
use Rattle.value_components.proofs.in_list.InComponent.check.Given as goal

abbrev pub invariant-loop-v : goal.invariant-loop-v
invariant-loop-v g l = l.out.items ≡ l.fn.out.items ++ in_hits l.self l.at (take l.v-index l.values)
