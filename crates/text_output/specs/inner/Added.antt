-- What it is to add texts to a writer and to finish it.
use Rattle.std.specs.Prelude.{◌≡◌, ℕ, Bool, false, List, [], ◌++◌, Result, is_err}
use Rattle.std.specs.Borrow.{GName}
use Rattle.shx_outside.specs.Outside.{SinkState}
use Rattle.text_output.specs.declared.writer.Writer.{Writer}
use Rattle.text_output.specs.Writes.{SentUnless}

-- a writer at one moment: its sink, the reference by which it puts, what is pending, and whether a put failed
pub record WriterState : Type 0 where
  pub sink : SinkState
  pub through : GName
  pub pending : List ℕ
  pub failed : Bool

abbrev pub writer_state : {S : Type 0} → (S → SinkState) → Writer S → WriterState
writer_state state writer = record {
  sink = state writer.out.now;
  through = writer.out.ghost_name;
  pending = writer.pending;
  failed = writer.failed;
}

-- nothing was added yet
abbrev pub fresh : SinkState → GName → WriterState
fresh sink through = record { sink = sink; through = through; pending = []; failed = false }

-- a text was added: it stands behind what was pending, of all of which some was put, unless the sink failed
pub record Added (before after : WriterState) (text : List ℕ) : Type 0 where
  pub same : after.through ≡ before.through
  pub sent : SentUnless before.failed after.failed before.sink after.sink
      (before.pending ++ text) after.pending

-- the same of writers
abbrev pub AddsText : {S : Type 0} → (S → SinkState) → Writer S → Writer S → List ℕ → Type 0
AddsText state before after text = Added (writer_state state before) (writer_state state after) text

-- what was pending was put, unless the sink failed, now or before
abbrev pub Finishes : {T E : Type 0} → WriterState → SinkState → Result T E → Type 0
Finishes writer after result = SentUnless writer.failed (is_err result) writer.sink after writer.pending []
