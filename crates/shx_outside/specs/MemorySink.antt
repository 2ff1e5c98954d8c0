-- What a sink in memory holds, and which puts fail.
use Rattle.std.specs.Prelude.{◌≡◌, ℕ, List, Bool, Some, None}
use Rattle.shx_outside.specs.Counted.{next_count}
use Rattle.shx_outside.specs.Failing.{is_listed}
use Rattle.shx_outside.specs.Outside.{SinkState}

-- the bytes that were put, the most bytes of a put, and the numbers of the puts that fail
pub record MemoryHeld : Type 0 where
  pub bytes : List ℕ
  pub piece : ℕ
  pub failing : List ℕ
  pub puts : ℕ
  pub faults : ℕ

-- whether the next put is one that fails
abbrev pub put_fails : MemoryHeld → Bool
put_fails held = is_listed held.failing (next_count held.puts)

-- the size of a piece and the puts that fail stay the same
pub record KeepsPlan (old new : MemoryHeld) : Type 0 where
  pub piece : new.piece ≡ old.piece
  pub failing : new.failing ≡ old.failing

-- what is told: the bytes, and nothing of the room
abbrev pub sink_told : MemoryHeld → SinkState
sink_told held = record { held = Some held.bytes; room = None; faults = held.faults }
