-- How a line's fault is told.
use Rattle.std.specs.Prelude.{ℕ, List, [], ◌++◌, Option, Some, None, codes, decimal}
use Rattle.script_lines.specs.declared.fault.LineFault.{LineFault}
use Rattle.script_lines.specs.declared.fault.LineFault.TheVariants.{Line, Memory}

abbrev pub place_text : Option ℕ → List ℕ
place_text None = []
place_text (Some at) = codes " at byte " ++ decimal at

abbrev pub fault_text : LineFault → List ℕ
fault_text (Line code at) = codes "the line is refused with code " ++ decimal code ++ place_text at
fault_text Memory = codes "out of memory"
