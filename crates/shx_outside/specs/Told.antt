-- What inputs and sinks tell of the bytes that they hold, and hosts of what they refused. Of bytes and room
-- each fact speaks only where they are told.
use Rattle.std.specs.Prelude.{◌≡◌, ◌≢◌, ℕ, ◌+◌, List, [], ◌++◌, Option, Some, Result, Err}
use Rattle.shx_outside.specs.declared.pattern_fault.PatternFault.{PatternFault}
use Rattle.shx_outside.specs.declared.pattern_fault.PatternFault.TheVariants.{Refused}
use Rattle.shx_outside.specs.declared.role.Role.{Role}
use Rattle.shx_outside.specs.Outside.{InputState, FlaggedText}

-- these bytes were put behind what was held
pub record Grew (old new : Option (List ℕ)) (bytes : List ℕ) : Type 0 where
  pub told : (held : List ℕ) → old ≡ Some held → new ≡ Some (held ++ bytes)

-- the room fell by this many bytes
pub record Fell (old new : Option ℕ) (count : ℕ) : Type 0 where
  pub told : (room : ℕ) → old ≡ Some room → (left : ℕ) × (new ≡ Some left) × (room ≡ count + left)

-- there was no room, and there is none
pub record IsUsedUp (old new : Option ℕ) : Type 0 where
  pub told : (room : ℕ) → old ≡ Some room → (room ≡ 0) × (new ≡ Some 0)

-- these bytes were taken from the front of what was left
pub record Took (old new : Option (List ℕ)) (bytes : List ℕ) : Type 0 where
  pub told : (left : List ℕ) → old ≡ Some left → (rest : List ℕ) × (new ≡ Some rest) × (left ≡ bytes ++ rest)

-- nothing is left
pub record IsAtEnd (rest : Option (List ℕ)) : Type 0 where
  pub told : (left : List ℕ) → rest ≡ Some left → left ≡ []

-- what was admitted, a name for a role or a text with flags, still is
pub record StaysAdmitted {X : Type 0} (before after : X → List ℕ → Type 0) : Type 0 where
  pub each : (x : X) (text : List ℕ) → before x text → after x text

-- each name holds what it held
pub record SameTexts (before after : InputState) : Type 0 where
  pub each : (name : List ℕ) → after.text name ≡ before.text name

-- the other roles stay as they were
pub record OthersStay (role : Role) (before after : InputState) : Type 0 where
  pub opened : (other : Role) → other ≢ role → after.opened other ≡ before.opened other
  pub opens : (other : Role) → other ≢ role → after.opens other ≡ before.opens other
  pub whole : (other : Role) → other ≢ role → after.whole other ≡ before.whole other
  pub rest : (other : Role) → other ≢ role → after.rest other ≡ before.rest other

-- a pattern that the host refused is the one that was refused last; every other answer leaves that
pub record NotesRefused {T : Type 0} (pattern : FlaggedText) (before now : Option FlaggedText)
    (result : Result T PatternFault) : Type 0 where
  pub refused : result ≡ Err Refused → now ≡ Some pattern
  pub quiet : result ≢ Err Refused → now ≡ before
