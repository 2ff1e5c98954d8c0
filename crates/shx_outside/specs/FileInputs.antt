-- What contracts see of inputs that are files: which roles are opened, how often each was, and how often a
-- call failed.
use Rattle.std.specs.Prelude.{ℕ, Bool, None}
use Rattle.shx_outside.specs.declared.open_counts.OpenCounts.{OpenCounts}
use Rattle.shx_outside.specs.declared.role.Role.{Role}
use Rattle.shx_outside.specs.declared.role.Role.TheVariants.{Shapes, Data, Script}
use Rattle.shx_outside.specs.Opens.{opens_of}
use Rattle.shx_outside.specs.Outside.{InputState}

pub record FileState : Type 0 where
  pub shapes_opened : Bool
  pub data_opened : Bool
  pub script_opened : Bool
  pub opens : OpenCounts
  pub errors : ℕ

-- whether a role is opened
abbrev pub is_opened : FileState → Role → Bool
is_opened state Shapes = state.shapes_opened
is_opened state Data = state.data_opened
is_opened state Script = state.script_opened

-- what is told: no bytes, which roles are opened, how often each was, and how often a call failed
abbrev pub files_told : FileState → InputState
files_told state =
    record {
      text = λ name. None;
      opened = is_opened state;
      opens = opens_of state.opens;
      whole = λ role. None;
      rest = λ role. None;
      faults = state.errors;
    }
