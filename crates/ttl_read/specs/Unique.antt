-- That a statement has one meaning or one fault, and so has a text.
use Rattle.std.specs.Prelude.{◌≡◌, ℕ, List}
use Rattle.ttl_tokens.specs.Form.{Takes}
use Rattle.shx_term.specs.declared.term.Scope.{Scope}
use Rattle.ttl_meaning.specs.State.{State}
use Rattle.ttl_read.specs.Documents.{Setting, IsDerived, IsStatement, Cause, HasCause, code_of, place_of}
use Rattle.ttl_read.specs.Documents.{IsDocument, HasFault}
use Rattle.ttl_read.specs.Grammar.{Place, StepsTo, statement}

-- a derivation leads from x to y, and none leads elsewhere, however deep brackets nest in it
pub record Settled (t : Setting) (x y : Place) : Type 0 where
  pub derived : IsDerived t x y
  pub only : (n : ℕ) (z : Place) → Takes (StepsTo t.text) (statement t.text n) x z → y ≡ z

-- the statement leads from x to y and nowhere else, and has no fault
pub record One (t : Setting) (x y : Place) : Type 0 where
  pub is : IsStatement t x y
  pub only : (z : Place) → IsStatement t x z → y ≡ z
  pub sound : (c : Cause) → HasCause t x c → ⊥

-- the statement at x has this fault and no other, and leads nowhere
pub record OneCause (t : Setting) (x : Place) (c : Cause) : Type 0 where
  pub is : HasCause t x c
  pub only : (d : Cause) → HasCause t x d → c ≡ d
  pub none : (z : Place) → IsStatement t x z → ⊥

abbrev pub HasOneCauseAt : Setting → Place → ℕ → ℕ → ℕ → Type 0
HasOneCauseAt t x start code at =
    (cause : Cause) × OneCause t x cause × (code_of cause ≡ code) × (place_of start cause ≡ at)

-- ---- a text

-- the text leaves no other state, and has no fault
pub record IsOneDocument (t : Setting) (scope : Scope) (base : List ℕ) (s : State) : Type 0 where
  pub is : IsDocument t scope base s
  pub only : (other : State) → IsDocument t scope base other → s ≡ other
  pub sound : (code at : ℕ) → HasFault t scope base code at → ⊥

-- the text has no other fault, and is no document
pub record IsOneFault (t : Setting) (scope : Scope) (base : List ℕ) (code at : ℕ) : Type 0 where
  pub is : HasFault t scope base code at
  pub only : (c a : ℕ) → HasFault t scope base c a → (code ≡ c) × (at ≡ a)
  pub none : (s : State) → IsDocument t scope base s → ⊥
