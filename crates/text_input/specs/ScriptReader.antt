-- Reading the lines of a script, one at a time.
use Rattle.std.specs.Prelude.{◌≡◌, ℕ, ◌+◌, ◌<◌, ◌≤◌, ◌⊎◌, Bool, true, false, nat_lt, Option, Some}
use Rattle.std.specs.Prelude.{List, [], ◌∷◌, ◌++◌, length}
use Rattle.std.specs.Option.{option_map}
use Rattle.shx_outside.specs.declared.role.Role.TheVariants.{Script}
use Rattle.shx_outside.specs.Outside.{InputState}
use Rattle.shx_outside.specs.Told.{IsAtEnd, OthersStay, SameTexts}
use Rattle.text_input.specs.declared.script_reader.Line.{Line}
use Rattle.text_input.specs.declared.script_reader.Line.TheVariants.{Is, TooLong, End, PastLimit}
use Rattle.text_input.specs.Lines.{HasNoFeed, script_lines}

-- a reader: what was read ahead, how many bytes of the script it may still give, and whether it met the end
pub record ReaderState : Type 0 where
  pub pending : List ℕ
  pub budget : ℕ
  pub ended : Bool

-- a reader that has read nothing
abbrev pub new_reader : ℕ → ReaderState
new_reader limit = record { pending = []; budget = limit; ended = false }

-- where a reader met the end, the inputs have nothing left
pub record MetEnd (ended : Bool) (rest : Option (List ℕ)) : Type 0 where
  pub told : ended ≡ true → IsAtEnd rest

-- the bytes of the script that are left: those read ahead, and those that the inputs have
abbrev pub left_of : ReaderState → Option (List ℕ) → Option (List ℕ)
left_of reader rest = option_map (λ bytes. reader.pending ++ bytes) rest

-- the first line of these bytes, and what follows it: a line feed and the rest, or the end, which was met
pub record Begins (bytes first rest : List ℕ) (ended : Bool) : Type 0 where
  pub plain : HasNoFeed first
  pub ends : (bytes ≡ first ++ 10 ∷ rest) ⊎ ((bytes ≡ first) × (rest ≡ []) × (ended ≡ true))

-- the line that was taken of these bytes
pub record TakenLine (bytes : List ℕ) (left' : Option (List ℕ)) (budget budget' : ℕ) (ended : Bool)
    (is_line : List ℕ → Type 0) : Type 0 where
  pub first : List ℕ
  pub line : is_line first
  pub rest : List ℕ
  pub left : left' ≡ Some rest
  pub begins : Begins bytes first rest ended
  pub lines : script_lines budget bytes ≡ first ∷ script_lines budget' rest
  pub longer : nat_lt budget (length bytes) ≡ nat_lt budget' (length rest)

-- a line was taken
pub record TookLine (left left' : Option (List ℕ)) (budget budget' : ℕ) (ended : Bool)
    (is_line : List ℕ → Type 0) : Type 0 where
  pub told : (bytes : List ℕ) → left ≡ Some bytes → TakenLine bytes left' budget budget' ended is_line

-- there is no further line: at the end of the script, or past its limit
pub record TookEnd (left left' : Option (List ℕ)) (budget : ℕ) (past : Bool) : Type 0 where
  pub told : (bytes : List ℕ) → left ≡ Some bytes
      → (script_lines budget bytes ≡ []) × (nat_lt budget (length bytes) ≡ past)
  pub at_end : past ≡ false → (rest : List ℕ) → left' ≡ Some rest → rest ≡ []

-- what was taken of the bytes that are left: a line of at most so many bytes, a longer one, or no line
abbrev pub Takes : Option (List ℕ) → Option (List ℕ) → ℕ → ℕ → Bool → ℕ → Line → Type 0
Takes left left' budget budget' ended most (Is line) =
    TookLine left left' budget budget' ended (λ first. first ≡ line.items)
    × (length line.items ≤ most)
    × (budget' < budget)
Takes left left' budget budget' ended most TooLong =
    TookLine left left' budget budget' ended (λ first. most < length first) × (budget' < budget)
Takes left left' budget budget' ended most End = TookEnd left left' budget false
Takes left left' budget budget' ended most PastLimit = TookEnd left left' budget true

-- what a reader read, and how it stands before and after
abbrev pub ReadsLine : ReaderState → Option (List ℕ) → ReaderState → Option (List ℕ) → ℕ → Line → Type 0
ReadsLine before rest after rest' most =
    Takes (left_of before rest) (left_of after rest') before.budget after.budget after.ended most

-- a front of the bytes that were left, with no line feed in it, was taken, and the rest is left
pub record TakenPart (bytes : List ℕ) (rest : Option (List ℕ)) : Type 0 where
  pub part : List ℕ
  pub left : List ℕ
  pub whole : bytes ≡ part ++ left
  pub rest_is : rest ≡ Some left
  pub plain : HasNoFeed part

-- the inputs failed within a line: nothing is pending, and what was taken of it has no line feed
pub record StopsInLine (left : Option (List ℕ)) (reader : ReaderState) (rest : Option (List ℕ)) : Type 0 where
  pub pending : reader.pending ≡ []
  pub told : (bytes : List ℕ) → left ≡ Some bytes → TakenPart bytes rest

-- what was taken of a script, without what is pending, and the budget make the limit, and no more than one
-- byte past the limit is pending
pub record IsCounted (script : List ℕ) (limit : ℕ) (reader : ReaderState)
    (rest : Option (List ℕ)) : Type 0 where
  pub done : List ℕ
  pub left : List ℕ
  pub rest_is : rest ≡ Some left
  pub whole : script ≡ done ++ (reader.pending ++ left)
  pub spent : length done + reader.budget ≡ limit
  pub ahead : length reader.pending ≤ reader.budget + 1

-- the count of the bytes that were taken stays right
pub record KeepsCount (before : ReaderState) (rest : Option (List ℕ)) (after : ReaderState)
    (rest' : Option (List ℕ)) : Type 0 where
  pub each : (script : List ℕ) (limit : ℕ)
      → IsCounted script limit before rest → IsCounted script limit after rest'

-- a reader goes on in a script: the script stays opened, and is not opened again; what was met and counted
-- stays so, and of the inputs nothing else changes
pub record GoesOn (before : ReaderState) (inputs : InputState) (after : ReaderState) (inputs' : InputState)
    : Type 0 where
  pub opened : inputs'.opened Script ≡ true
  pub opens : inputs'.opens Script ≡ inputs.opens Script
  pub whole : inputs'.whole Script ≡ inputs.whole Script
  pub met : MetEnd after.ended (inputs'.rest Script)
  pub stays_ended : before.ended ≡ true → after.ended ≡ true
  pub kept : KeepsCount before (inputs.rest Script) after (inputs'.rest Script)
  pub others : OthersStay Script inputs inputs'
  pub texts : SameTexts inputs inputs'
