-- What is left in a sink by putting a text.
use Rattle.std.specs.Prelude.{◌≡◌, ◌≢◌, ℕ, Bool, true, false, List, [], ◌++◌, Some, length}
use Rattle.std.specs.Prelude.{Result, OnOk, OnErr}
use Rattle.shx_outside.specs.Counted.{Rose}
use Rattle.shx_outside.specs.Outside.{SinkState}
use Rattle.shx_outside.specs.Told.{Grew, Fell}

-- these bytes were put, and nothing failed
pub record Put (before after : SinkState) (bytes : List ℕ) : Type 0 where
  pub grew : Grew before.held after.held bytes
  pub fell : Fell before.room after.room (length bytes)
  pub quiet : after.faults ≡ before.faults

-- of what was due a front was put, and the rest is still due
pub record Sent (before after : SinkState) (due rest : List ℕ) : Type 0 where
  pub front : List ℕ
  pub whole : due ≡ front ++ rest
  pub put : Put before after front

-- the sink failed: a proper front of what was due was put, and a room that is told is used up
pub record FellShort (before after : SinkState) (due : List ℕ) : Type 0 where
  pub front : List ℕ
  pub rest : List ℕ
  pub whole : due ≡ front ++ rest
  pub proper : rest ≢ []
  pub grew : Grew before.held after.held front
  pub fell : Fell before.room after.room (length front)
  pub used_up : (room : ℕ) → before.room ≡ Some room → after.room ≡ Some 0
  pub rose : Rose before.faults after.faults

-- a text was put whole, or the sink failed
pub record Writes {T E : Type 0} (before after : SinkState) (text : List ℕ) (result : Result T E)
    : Type 0 where
  pub ok : OnOk result (Put before after text)
  pub err : OnErr result (FellShort before after text)

-- of what was due all but the rest was put, unless the sink failed; where it had failed before, nothing was
abbrev pub SentUnless : Bool → Bool → SinkState → SinkState → List ℕ → List ℕ → Type 0
SentUnless true failed before after due rest = (failed ≡ true) × (after ≡ before)
SentUnless false true before after due rest = FellShort before after due
SentUnless false false before after due rest = Sent before after due rest
