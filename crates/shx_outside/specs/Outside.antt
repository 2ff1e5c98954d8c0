-- What inputs, a sink and a pattern host tell of themselves at one moment.
use Rattle.std.specs.Prelude.{ℕ, List, Bool, Option}
use Rattle.shx_outside.specs.declared.flags.Flags.{Flags}
use Rattle.shx_outside.specs.declared.role.Role.{Role}

-- what each name holds; which roles are opened, how often each was, the whole text that was opened last for
-- each, and what is left of it; and how often the inputs failed
pub record InputState : Type 0 where
  pub text : List ℕ → Option (List ℕ)
  pub opened : Role → Bool
  pub opens : Role → ℕ
  pub whole : Role → Option (List ℕ)
  pub rest : Role → Option (List ℕ)
  pub faults : ℕ

-- the bytes that were put, the room for more, and how often the sink failed
pub record SinkState : Type 0 where
  pub held : Option (List ℕ)
  pub room : Option ℕ
  pub faults : ℕ

-- a text, as a pattern with these flags
pub record FlaggedText : Type 0 where
  pub flags : Flags
  pub text : List ℕ

-- how often the host refused a pattern, and the pattern that was refused last
pub record PatternState : Type 0 where
  pub faults : ℕ
  pub refused : Option FlaggedText

-- every name may be opened for every role
abbrev pub admits_all : {X : Type 0} → X → Role → List ℕ → Type 0
admits_all inputs role name = Unit {0}

-- every text may be built, with any flags
abbrev pub builds_all : {X : Type 0} → X → Flags → List ℕ → Type 0
builds_all host flags text = Unit {0}
