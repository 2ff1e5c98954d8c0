-- The work that answers take, as the counters of a run show it.
use Rattle.std.specs.Prelude.{ℕ, ◌+◌, ◌≤◌}

-- how many pairs are evaluated, and how many nested ones
pub record Work : Type 0 where
  pub evaluated : ℕ
  pub nested : ℕ

abbrev pub evaluating : ℕ → ℕ → Work
evaluating evaluated nested = record { evaluated = evaluated; nested = nested }

abbrev pub no_work : Work
no_work = evaluating 0 0

-- the one and then the other
abbrev pub and_then : Work → Work → Work
and_then first later =
    evaluating (first.evaluated + later.evaluated) (first.nested + later.nested)

-- neither count fell
pub record NoneFell (before after : Work) : Type 0 where
  pub evaluated : before.evaluated ≤ after.evaluated
  pub nested : before.nested ≤ after.nested
