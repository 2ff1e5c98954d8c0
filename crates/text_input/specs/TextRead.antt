-- What reading a text to its end, or past a limit, gives.
use Rattle.std.specs.Prelude.{◌≡◌, ◌≢◌, ◌⊎◌, ℕ, ◌+◌, ◌<◌, ◌≤◌, true, List, ◌++◌, Option, Some, length}
use Rattle.std.specs.Prelude.{Result, Ok, Err, IfOk, IfErr}
use Rattle.std.specs.declared.vec.Vec.{Vec}
use Rattle.shx_outside.specs.declared.role.Role.{Role}
use Rattle.shx_outside.specs.Counted.{next_count, Rose}
use Rattle.shx_outside.specs.Outside.{InputState}
use Rattle.shx_outside.specs.Told.{IsAtEnd, OthersStay, SameTexts, StaysAdmitted}
use Rattle.text_input.specs.declared.read_fault.ReadFault.{ReadFault}
use Rattle.text_input.specs.declared.read_fault.ReadFault.TheVariants.{TooLong, Input, Memory}

-- these bytes are the whole text, and no more than the limit
pub record ReadsWhole (told rest : Option (List ℕ)) (most : ℕ) (bytes : List ℕ) : Type 0 where
  pub at_end : IsAtEnd rest
  pub whole : (text : List ℕ) → told ≡ Some text → bytes ≡ text
  pub within : length bytes ≤ most

-- the text is longer than the limit
pub record IsTooLong (told : Option (List ℕ)) (most : ℕ) : Type 0 where
  pub longer : (text : List ℕ) → told ≡ Some text → most < length text

-- a front of the text was taken: one byte past the limit at most, and the rest is left
pub record TakenFront (text : List ℕ) (rest : Option (List ℕ)) (most : ℕ) : Type 0 where
  pub taken : List ℕ
  pub left : List ℕ
  pub whole : text ≡ taken ++ left
  pub rest_is : rest ≡ Some left
  pub within : length taken ≤ most + 1

-- where the text is told, no more than one byte past the limit was taken of it
pub record TakesWithin (told rest : Option (List ℕ)) (most : ℕ) : Type 0 where
  pub front : (text : List ℕ) → told ≡ Some text → TakenFront text rest most

-- it was opened at most once, and once where the inputs did not fail
pub record OpensOnce {T : Type 0} (before now : ℕ) (result : Result T ReadFault) : Type 0 where
  pub at_most : (now ≡ before) ⊎ (now ≡ next_count before)
  pub opened : result ≢ Err Input → now ≡ next_count before

-- the inputs' count rose where they failed, and in no other case
abbrev pub HasInputCause : {T : Type 0} → ℕ → ℕ → Result T ReadFault → Type 0
HasInputCause before now (Ok read) = now ≡ before
HasInputCause before now (Err TooLong) = now ≡ before
HasInputCause before now (Err Input) = Rose before now
HasInputCause before now (Err Memory) = now ≡ before

-- the text of a name was opened for a role and read to its end, past its limit, or as far as it went; of the
-- inputs nothing else changed
pub record IsTextRead {Z : Type 0} (role : Role) (name : List ℕ) (most : ℕ) (before after : InputState)
    (admits admits' : Role → List ℕ → Type 0) (result : Result (Vec ℕ Z) ReadFault) : Type 0 where
  pub read : IfOk result (λ bytes. ReadsWhole (before.text name) (after.rest role) most bytes.items)
  pub too_long : IfErr result (λ fault. fault ≡ TooLong → IsTooLong (before.text name) most)
  pub within : after.opened role ≡ true → TakesWithin (before.text name) (after.rest role) most
  pub within_opened : before.opens role < after.opens role
      → TakesWithin (before.text name) (after.rest role) most
  pub opens : OpensOnce (before.opens role) (after.opens role) result
  pub whole : before.opens role < after.opens role → after.whole role ≡ before.text name
  pub whole_opened : after.opened role ≡ true → after.whole role ≡ before.text name
  pub opened : result ≢ Err Input → after.opened role ≡ true
  pub cause : HasInputCause before.faults after.faults result
  pub others : OthersStay role before after
  pub admitted : StaysAdmitted admits admits'
  pub texts : SameTexts before after
