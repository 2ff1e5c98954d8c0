-- How often each role was opened.
use Rattle.std.specs.Prelude.{ℕ}
use Rattle.shx_outside.specs.declared.open_counts.OpenCounts.{OpenCounts}
use Rattle.shx_outside.specs.declared.role.Role.{Role}
use Rattle.shx_outside.specs.declared.role.Role.TheVariants.{Shapes, Data, Script}
use Rattle.shx_outside.specs.Counted.{next_count}

-- no role was opened
abbrev pub no_opens : OpenCounts
no_opens = record { shapes = 0; «data» = 0; script = 0 }

-- how often a role was opened
abbrev pub opens_of : OpenCounts → Role → ℕ
opens_of counts Shapes = counts.shapes
opens_of counts Data = counts.«data»
opens_of counts Script = counts.script

-- a role was opened once more
abbrev pub with_open : OpenCounts → Role → OpenCounts
with_open counts Shapes = record counts { shapes = next_count counts.shapes }
with_open counts Data = record counts { «data» = next_count counts.«data» }
with_open counts Script = record counts { script = next_count counts.script }
