use Rattle.std.proofs.Common.{◌≡◌, ◌++◌}
use Rattle.std.specs.Prelude.{take}
use Rattle.comp_core.specs.Results.{each_unless}
use Rattle.comp_core.specs.TermTests.{is_so_at}
use Rattle.value_components.proofs.condition.check_terms.Given as goal

abbrev pub invariant-loop-v : goal.invariant-loop-v
invariant-loop-v g l =
    l.out.items
    ≡ l.fn.out.items
    ++ each_unless (is_so_at (g.D.Condition.holds_of l.condition) (g.V.GraphView.graph l.view)) l.kind l.at
    (take l.v-index l.values)
