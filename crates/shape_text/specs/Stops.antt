-- Why runs are cut short.
use Rattle.std.specs.Prelude.{◌≡◌, ℕ, Result, Ok, Err}
use Rattle.shx_outside.specs.Counted.{Rose}
use Rattle.shape_text.specs.declared.stop.Stop.{Stop}
use Rattle.shape_text.specs.declared.stop.Stop.TheVariants.{Input, Write, Memory}

-- the inputs' count rose where they failed, and in no other case
abbrev pub StopCause : {T : Type 0} → ℕ → ℕ → Result T Stop → Type 0
StopCause before now (Ok value) = now ≡ before
StopCause before now (Err Input) = Rose before now
StopCause before now (Err Write) = ⊥
StopCause before now (Err Memory) = now ≡ before
