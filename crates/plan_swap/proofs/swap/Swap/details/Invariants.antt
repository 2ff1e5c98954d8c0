use Rattle.std.specs.Prelude.{◌≡◌, map, take}
use Rattle.comp_core.specs.Rows.{detail_of}
use Rattle.plan_swap.specs.Renumbered.{detail_renumbered}
use Rattle.plan_swap.specs.Swap.{number_after}
use Rattle.plan_swap.proofs.swap.Swap.details.Given as goal

abbrev pub invariant-loop-row : goal.invariant-loop-row
invariant-loop-row l =
    map detail_of l.rows.items ≡ map (detail_renumbered (number_after l.self)) (take l.row-index l.details)
