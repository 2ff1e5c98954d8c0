-- How a run answers: within which limits, in which format, and as what it reads each line of its script.
use Rattle.std.specs.Prelude.{ℕ, List, Result}
use Rattle.shx_term.specs.declared.limits.Limits.{Limits}
use Rattle.text_output.specs.declared.format.Format.{Format}
use Rattle.script_lines.specs.declared.command.Command.{Command}
use Rattle.script_lines.specs.declared.fault.LineFault.{LineFault}

abbrev pub LineReadings : Type 0
LineReadings = List ℕ → Result Command LineFault

pub record Manner : Type 0 where
  pub limits : Limits
  pub format : Format
  pub lines : LineReadings
