-- A sink that fails only where its room is used up.
use Rattle.std.specs.Prelude.{ℕ, Some}
use Rattle.shx_outside.specs.HonestSink.{HonestHeld}
use Rattle.shx_outside.specs.Outside.{SinkState}

-- what is held, and how many puts found no room
pub record RoomyHeld : Type 0 where
  pub sink : HonestHeld
  pub faults : ℕ

-- what is told: the bytes, the room, and how often a put failed
abbrev pub roomy_told : RoomyHeld → SinkState
roomy_told held = record { held = Some held.sink.bytes; room = Some held.sink.room; faults = held.faults }
