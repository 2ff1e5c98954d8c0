-- Counts of what went wrong: only a call that fails raises one, and no call lowers it.
use Rattle.std.specs.Prelude.{◌≡◌, ◌≢◌, ℕ, ◌+◌, ◌<◌, ◌≤◌, ◌⊎◌, ◌==◌, if◌then◌else◌, Result, is_ok, is_err}
use Rattle.std.specs.Prelude.{Err, OnOk, OnErr}
use Rattle.shx_outside.specs.declared.pattern_fault.PatternFault.{PatternFault}
use Rattle.shx_outside.specs.declared.pattern_fault.PatternFault.TheVariants.{Refused}

-- the last value of a counter of 64 bits, at which it stays
abbrev pub last_count : ℕ
last_count = 18446744073709551615

-- one more, up to the last value
abbrev pub next_count : ℕ → ℕ
next_count n = if n == last_count then n else n + 1

-- the count after a call: one more where it failed
abbrev pub faults_after : {T E : Type 0} → ℕ → Result T E → ℕ
faults_after before result = if is_err result then next_count before else before

-- the count of what was opened, after a call: one more where it succeeded
abbrev pub opens_after : {T E : Type 0} → ℕ → Result T E → ℕ
opens_after before result = if is_ok result then next_count before else before

-- the count rose, or stands at its last value
pub record Rose (before now : ℕ) : Type 0 where
  pub later : before ≤ now
  pub more : (before < now) ⊎ (now ≡ last_count)

-- a call that fails has raised the count, and any other has left it
pub record HasCause {T E : Type 0} (before now : ℕ) (result : Result T E) : Type 0 where
  pub failed : OnErr result (Rose before now)
  pub quiet : OnOk result (now ≡ before)

-- the count after a call of a host: one more where it refused the pattern
abbrev pub refusals_after : {T : Type 0} → ℕ → Result T PatternFault → ℕ
refusals_after before (Err Refused) = next_count before
refusals_after before result = before

-- a refusal has raised the count, and every other answer has left it
pub record HasRefusalCause {T : Type 0} (before now : ℕ) (result : Result T PatternFault) : Type 0 where
  pub refused : result ≡ Err Refused → Rose before now
  pub quiet : result ≢ Err Refused → now ≡ before
