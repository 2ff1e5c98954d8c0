-- What a host over another one has, and which calls it refuses.
use Rattle.std.specs.Prelude.{ℕ, List, Bool, Option}
use Rattle.shx_outside.specs.Counted.{next_count}
use Rattle.shx_outside.specs.Failing.{is_listed}
use Rattle.shx_outside.specs.Outside.{FlaggedText, PatternState}

-- the host within, the numbers of the calls that are refused, how many calls and refusals there were, and
-- which pattern was refused last
pub record FailingCalls (P : Type 0) : Type 0 where
  pub inner : P
  pub failing : List ℕ
  pub calls : ℕ
  pub faults : ℕ
  pub refused : Option FlaggedText

-- whether the next call is one that is refused
abbrev pub refuses_next : {P : Type 0} → FailingCalls P → Bool
refuses_next host = is_listed host.failing (next_count host.calls)

-- what is told: the count of refusals, and the last of them
abbrev pub refusing_told : {P : Type 0} → FailingCalls P → PatternState
refusing_told host = record { faults = host.faults; refused = host.refused }
