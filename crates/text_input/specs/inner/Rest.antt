-- Reading on in a text that was opened.
use Rattle.std.specs.Prelude.{◌≡◌, ℕ, ◌≤◌, true, List, length, Result, OnOk, IfErr}
use Rattle.shx_outside.specs.declared.role.Role.{Role}
use Rattle.shx_outside.specs.Outside.{InputState}
use Rattle.shx_outside.specs.Told.{Took, OthersStay, SameTexts, StaysAdmitted}
use Rattle.text_input.specs.declared.read_fault.ReadFault.{ReadFault}
use Rattle.text_input.specs.declared.read_fault.ReadFault.TheVariants.{TooLong}
use Rattle.text_input.specs.TextRead.{ReadsWhole, IsTooLong, TakesWithin, HasInputCause}

-- the same text stays opened for the role, and nothing else changed but what is left of it and the faults
pub record StaysOpened (role : Role) (before after : InputState) (admits admits' : Role → List ℕ → Type 0)
    : Type 0 where
  pub opened : after.opened role ≡ true
  pub opens : after.opens role ≡ before.opens role
  pub whole : after.whole role ≡ before.whole role
  pub others : OthersStay role before after
  pub admitted : StaysAdmitted admits admits'
  pub texts : SameTexts before after

-- these bytes were read so far, and no call failed
pub record HasRead (role : Role) (most : ℕ) (before after : InputState)
    (admits admits' : Role → List ℕ → Type 0) (bytes : List ℕ) : Type 0 where
  pub stays : StaysOpened role before after admits admits'
  pub taken : Took (before.rest role) (after.rest role) bytes
  pub quiet : after.faults ≡ before.faults
  pub within : length bytes ≤ most

-- what was left was read to its end, past the limit, or as far as it went
pub record IsRestRead {T : Type 0} (role : Role) (most : ℕ) (before after : InputState)
    (admits admits' : Role → List ℕ → Type 0) (bytes : List ℕ) (result : Result T ReadFault) : Type 0 where
  pub stays : StaysOpened role before after admits admits'
  pub read : OnOk result (ReadsWhole (before.rest role) (after.rest role) most bytes)
  pub too_long : IfErr result (λ fault. fault ≡ TooLong → IsTooLong (before.rest role) most)
  pub within : TakesWithin (before.rest role) (after.rest role) most
  pub cause : HasInputCause before.faults after.faults result
