-- What reading the next line of a script comes to.
use Rattle.std.specs.Prelude.{◌≡◌, ◌≢◌, ℕ, true, List, Result, IfOk, IfErr}
use Rattle.shx_outside.specs.declared.role.Role.{Role}
use Rattle.shx_outside.specs.declared.role.Role.TheVariants.{Script}
use Rattle.shx_outside.specs.Outside.{InputState}
use Rattle.shx_outside.specs.Told.{StaysAdmitted}
use Rattle.text_input.specs.declared.read_fault.ReadFault.{ReadFault}
use Rattle.text_input.specs.declared.read_fault.ReadFault.TheVariants.{Input, TooLong}
use Rattle.text_input.specs.declared.script_reader.Line.{Line}
use Rattle.text_input.specs.ScriptReader.{ReaderState, left_of, ReadsLine, StopsInLine, GoesOn}
use Rattle.text_input.specs.TextRead.{HasInputCause}

-- a line of at most so many bytes was read, or why not; the reader goes on, and of the inputs nothing else
-- changed
pub record IsLineRead (before : ReaderState) (inputs : InputState) (after : ReaderState)
    (inputs' : InputState) (admits admits' : Role → List ℕ → Type 0) (most : ℕ)
    (result : Result Line ReadFault) : Type 0 where
  pub line : IfOk result (ReadsLine before (inputs.rest Script) after (inputs'.rest Script) most)
  pub stopped : IfErr result (λ fault. fault ≡ Input
      → StopsInLine (left_of before (inputs.rest Script)) after (inputs'.rest Script))
  pub goes_on : GoesOn before inputs after inputs'
  pub not_too_long : IfErr result (λ fault. fault ≢ TooLong)
  pub ended : before.ended ≡ true → IfErr result (λ fault. fault ≢ Input)
  pub cause : HasInputCause inputs.faults inputs'.faults result
  pub admitted : StaysAdmitted admits admits'
