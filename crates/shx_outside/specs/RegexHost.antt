-- What contracts see of a host of patterns: how often it refused one, and which it refused last.
use Rattle.std.specs.Prelude.{ℕ, Option}
use Rattle.shx_outside.specs.Outside.{FlaggedText, PatternState}

pub record Refusals : Type 0 where
  pub errors : ℕ
  pub refused : Option FlaggedText

-- what is told: both
abbrev pub refusals_told : Refusals → PatternState
refusals_told host = record { faults = host.errors; refused = host.refused }
