-- What the texts of a run are read as: the shapes, the data, and each line of the script.
use Rattle.std.specs.Prelude.{◌≡◌, All, List, ℕ, Option, IfSome}
use Rattle.shx_term.specs.declared.limits.Limits.{Limits}
use Rattle.shx_term.specs.declared.term.Scope.TheVariants.{Data}
use Rattle.graph_view.specs.Graph.{Graph}
use Rattle.text_input.specs.Lines.{script_lines}
use Rattle.ttl_meaning.specs.State.{State}
use Rattle.script_run.specs.LineReadings.{IsReadBehind}
use Rattle.script_run.specs.Manner.{LineReadings}
use Rattle.shape_text.specs.TextReadings.{TextReading, States, IsReadAs}
use Rattle.shape_text.specs.Verdict.{Verdict, plans}

-- what the shapes text and the data text are read as, and each line of the script
pub record Readings : Type 0 where
  pub shapes : TextReading
  pub data_text : TextReading
  pub lines : LineReadings

-- ---- the data text

-- the data text is read so, where it is told and the shapes have a plan: behind the terms of the shapes text
abbrev pub DataIsRead : Limits → List ℕ → Readings → Verdict → Option (List ℕ) → Type 0
DataIsRead limits base readings verdict text =
    IfSome text (λ bytes. (document : Graph) (end : State) (plan : _) → readings.shapes ≡ States document end
    → verdict ≡ plans plan → IsReadAs limits base Data document.terms bytes readings.data_text)

-- ---- the script

-- each line of the script is read so, where it is told, the shapes have a plan and the data text is a
-- document
abbrev pub LinesAreRead : Limits → Readings → Verdict → Option (List ℕ) → Type 0
LinesAreRead limits readings verdict script =
    IfSome script (λ bytes. (document : Graph) (end : State) (plan : _) → verdict ≡ plans plan
    → readings.data_text ≡ States document end
    → All (λ line. IsReadBehind limits end line (readings.lines line)) (script_lines limits.script bytes))
