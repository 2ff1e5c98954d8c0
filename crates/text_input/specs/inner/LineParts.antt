-- The parts of a line that is read in pieces.
use Rattle.std.specs.Prelude.{◌≡◌, ℕ, ◌+◌, ◌<◌, ◌≤◌, List, [], ◌∷◌, ◌++◌, take, length}
use Rattle.text_input.specs.declared.script_reader.Line.{Line}
use Rattle.text_input.specs.declared.script_reader.Line.TheVariants.{Is, TooLong, End, PastLimit}
use Rattle.text_input.specs.declared.script_reader.Part.{Part}
use Rattle.text_input.specs.declared.script_reader.Part.TheVariants.{Inner, Last, Cut}
use Rattle.text_input.specs.Lines.{HasNoFeed}
use Rattle.text_input.specs.ScriptReader.{ReaderState}

-- bytes without a line feed were taken, before what is now pending; of the line so far only a front is kept
pub record TookPart (before after : ReaderState) (behind kept kept' : List ℕ) (most : ℕ) : Type 0 where
  pub part : List ℕ
  pub plain : HasNoFeed part
  pub keeps : kept' ≡ take (most + 1) (kept ++ part)
  pub pending : before.pending ≡ part ++ (behind ++ after.pending)
  pub budget : before.budget ≡ length part + (length behind + after.budget)

-- the budget ends before the next line feed
pub record IsCut (before after : ReaderState) : Type 0 where
  pub plain : HasNoFeed (take before.budget before.pending)
  pub longer : before.budget < length before.pending
  pub same : after ≡ before

-- all that is pending was taken, or the bytes up to a line feed and that, or nothing
abbrev pub TakesPart : ReaderState → ReaderState → List ℕ → List ℕ → ℕ → Part → Type 0
TakesPart before after kept kept' most Inner =
    TookPart before after [] kept kept' most × (after.budget < before.budget)
TakesPart before after kept kept' most Last = TookPart before after (10 ∷ []) kept kept' most
TakesPart before after kept kept' most Cut = IsCut before after

-- the line that was kept, unless it is too long
abbrev pub IsKept : List ℕ → ℕ → Line → Type 0
IsKept kept most (Is line) = (line.items ≡ kept) × (length kept ≤ most)
IsKept kept most TooLong = most < length kept
IsKept kept most End = ⊥
IsKept kept most PastLimit = ⊥
