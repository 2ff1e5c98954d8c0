use Rattle.std.specs.Prelude.{◌≡◌, take}
use Rattle.plan_swap.specs.Renumbered.{rows_renumbered}
use Rattle.plan_swap.specs.Swap.{number_after}
use Rattle.plan_swap.proofs.swap.Swap.rows.Given as goal

abbrev pub invariant-loop-row : goal.invariant-loop-row
invariant-loop-row l = l.found.items ≡ rows_renumbered (number_after l.self) (take l.row-index l.rows)
