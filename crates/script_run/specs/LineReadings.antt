-- What a line is read as behind a data text.
use Rattle.std.specs.Prelude.{◌≡◌, ℕ, List, Result}
use Rattle.shx_term.specs.declared.limits.Limits.{Limits}
use Rattle.ttl_meaning.specs.declared.document.Document.{Document}
use Rattle.ttl_meaning.specs.State.{State}
use Rattle.script_lines.specs.declared.command.Command.{Command}
use Rattle.script_lines.specs.declared.fault.LineFault.{LineFault}
use Rattle.script_lines.specs.Lines.{IsLineRead}
use Rattle.shape_text.specs.Names.{HasNamesOf}

-- a line is read so behind a data text that ends like this
pub record IsReadBehind (limits : Limits) (end : State) (line : List ℕ) (reading : Result Command LineFault)
    : Type 0 where
  pub document : Document
  pub names : HasNamesOf end document
  pub read : IsLineRead limits document line reading

-- it has no other
abbrev pub LinesAreReadOnce : Type 0
LinesAreReadOnce =
    (limits : Limits) (end : State) (line : List ℕ) (a b : Result Command LineFault)
    → IsReadBehind limits end line a → IsReadBehind limits end line b → a ≡ b

-- it has such a reading
abbrev pub HasReading : Limits → State → List ℕ → Type 0
HasReading limits end line =
    (reading : Result Command LineFault) × IsReadBehind limits end line reading
