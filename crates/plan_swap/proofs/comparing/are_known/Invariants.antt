use Rattle.std.specs.Prelude.{◌≡◌, drop}
use Rattle.plan_swap.specs.inner.Stated.{are_known}
use Rattle.plan_swap.proofs.comparing.are_known.Given as goal

abbrev pub invariant-loop-c : goal.invariant-loop-c
invariant-loop-c l = are_known (drop l.c-index l.constraints) l.found ≡ are_known l.constraints l.found
