-- Why no validation was opened, with the pool of the terms that are told of.
use Rattle.std.specs.Prelude.{◌≡◌, ℕ, Result, Ok, Err}
use Rattle.shx_term.specs.Pool.{Pooled}
use Rattle.shape_text.specs.declared.refusal.Refusal.{Refusal}
use Rattle.shape_text.specs.declared.refusal.Refusal.TheVariants.{Text, Cut}
use Rattle.shape_text.specs.declared.stop.Stop.TheVariants.{Input, Write, Memory}
use Rattle.shape_text.specs.declared.unopened.Unopened.{Unopened}
use Rattle.shape_text.specs.declared.unopened.Unopened.TheVariants as unopened
use Rattle.shape_text.specs.Stops.{StopCause}

-- a refusal beside the pool
abbrev pub beside : Pooled → Refusal → Unopened
beside pool (Text answer) = unopened.Told answer pool
beside pool (Cut stop) = unopened.Cut stop

-- where nothing was read, a run is cut short by want of memory alone
abbrev pub IsStill : Unopened → Type 0
IsStill (unopened.Told answer pool) = Unit {0}
IsStill (unopened.Cut Input) = ⊥
IsStill (unopened.Cut Write) = ⊥
IsStill (unopened.Cut Memory) = Unit {0}

-- the inputs' count rose where they failed, and in no other case
abbrev pub UnopenedCause : {T : Type 0} → ℕ → ℕ → Result T Unopened → Type 0
UnopenedCause before now (Ok value) = now ≡ before
UnopenedCause before now (Err (unopened.Told answer pool)) = now ≡ before
UnopenedCause {T = T} before now (Err (unopened.Cut stop)) = StopCause {T = T} before now (Err stop)
