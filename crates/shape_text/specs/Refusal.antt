-- Why no validation was opened, in terms of what a text is read as.
use Rattle.std.specs.Prelude.{◌≡◌, ℕ, Result, Ok, Err}
use Rattle.shx_outside.specs.declared.role.Role.{Role}
use Rattle.report_write.specs.declared.answer.Answer.{Answer}
use Rattle.report_write.specs.declared.answer.Answer.TheVariants.{TextFault, TooLong}
use Rattle.shape_text.specs.declared.refusal.Refusal.{Refusal}
use Rattle.shape_text.specs.declared.refusal.Refusal.TheVariants.{Text, Cut}
use Rattle.shape_text.specs.declared.stop.Stop.TheVariants.{Input, Write, Memory}
use Rattle.shape_text.specs.TextReadings.{TextReading, States, Faulty, Long}
use Rattle.shape_text.specs.Stops.{StopCause}

-- with this answer a text is refused that is read so
abbrev pub IsRefusalOf : Role → TextReading → Answer → Type 0
IsRefusalOf role (States document end) answer = ⊥
IsRefusalOf role (Faulty code at) answer = answer ≡ TextFault role code at
IsRefusalOf role Long answer = answer ≡ TooLong role

-- the answer is one by which the text is refused; a run that was cut short says nothing of it
abbrev pub RefusesAs : Role → (TextReading → Type 0) → Refusal → Type 0
RefusesAs role is_read (Text answer) =
    (reading : TextReading) × is_read reading × IsRefusalOf role reading answer
RefusesAs role is_read (Cut stop) = Unit

-- where nothing was read, a run is cut short by want of memory alone
abbrev pub IsQuiet : Refusal → Type 0
IsQuiet (Text answer) = Unit
IsQuiet (Cut Input) = ⊥
IsQuiet (Cut Write) = ⊥
IsQuiet (Cut Memory) = Unit

-- the inputs' count rose where they failed, and in no other case
abbrev pub RefusalCause : {T : Type 0} → ℕ → ℕ → Result T Refusal → Type 0
RefusalCause before now (Ok value) = now ≡ before
RefusalCause before now (Err (Text answer)) = now ≡ before
RefusalCause {T = T} before now (Err (Cut stop)) = StopCause {T = T} before now (Err stop)
