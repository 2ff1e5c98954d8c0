-- What a line does to the inputs and to the pattern host: it may open texts of shapes, and build patterns.
use Rattle.std.specs.Prelude.{◌≡◌, ℕ, ◌⊎◌, Bool, true, false, OnOk, Result}
use Rattle.shx_outside.specs.Counted.{Rose, next_count}
use Rattle.shx_outside.specs.declared.role.Role.TheVariants.{Shapes}
use Rattle.shx_outside.specs.Outside.{InputState}
use Rattle.shx_outside.specs.Told.{IsAtEnd, OthersStay, SameTexts}
use Rattle.shx_term.specs.declared.fault_codes.TheConstants.{PATTERN_REFUSED}
use Rattle.text_input.specs.TextRead.{IsTooLong, TakesWithin}
use Rattle.report_write.specs.declared.answer.Answer.TheVariants.{OfShape}
use Rattle.script_run.specs.declared.reply.Reply.{Reply}
use Rattle.script_run.specs.declared.reply.Reply.TheVariants.{Answers}

-- ---- the inputs

-- no more than one byte past the limit was taken of the text of shapes that is open
abbrev pub TakesShapesWithin : ℕ → InputState → Type 0
TakesShapesWithin most inputs =
    inputs.opened Shapes ≡ true → TakesWithin (inputs.whole Shapes) (inputs.rest Shapes) most

-- it was read to its end, or is too long
abbrev pub ReadsShapesOut : ℕ → InputState → Type 0
ReadsShapesOut most inputs = IsAtEnd (inputs.rest Shapes) ⊎ IsTooLong (inputs.whole Shapes) most

-- one more text of shapes was opened at most, and read as far as is needed; of the inputs nothing else
-- changes
pub record LoadsWithin {T E : Type 0} (most : ℕ) (old new : InputState) (result : Result T E) : Type 0 where
  pub opens : (new.opens Shapes ≡ old.opens Shapes) ⊎ (new.opens Shapes ≡ next_count (old.opens Shapes))
  pub within : TakesShapesWithin most old → TakesShapesWithin most new
  pub read_out : OnOk result (ReadsShapesOut most old → ReadsShapesOut most new)
  pub others : OthersStay Shapes old new
  pub texts : SameTexts old new

-- ---- the pattern host

-- its count of refusals stays, and the script goes on; or it rose, and the script ends with the line that
-- tells of a shape whose pattern was refused
abbrev pub TellsRefusal : ℕ → ℕ → Bool → Reply → Type 0
TellsRefusal before now false reply = now ≡ before
TellsRefusal before now true reply =
    Rose before now × ((shape : ℕ) × (reply ≡ Answers (OfShape PATTERN_REFUSED shape)))
