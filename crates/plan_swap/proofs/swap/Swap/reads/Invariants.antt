use Rattle.std.specs.Prelude.{[], map, take}
use Rattle.shx_term.specs.Members.{Adds}
use Rattle.plan_swap.specs.Renumbered.{key_renumbered}
use Rattle.plan_swap.specs.Swap.{number_after}
use Rattle.plan_swap.proofs.swap.Swap.reads.Given as goal

abbrev pub invariant-loop-key : goal.invariant-loop-key
invariant-loop-key l =
    Adds [] l.found (map (key_renumbered (number_after l.self)) (take l.key-index l.key-items))
