-- Texts that are held in memory, with calls that fail on demand.
use Rattle.std.specs.Prelude.{◌≡◌, ℕ, List, Bool}
use Rattle.shx_outside.specs.Counted.{next_count}
use Rattle.shx_outside.specs.Failing.{is_listed}
use Rattle.shx_outside.specs.OpenTexts.{OpenTexts, KeepsTexts, texts_told}
use Rattle.shx_outside.specs.Outside.{InputState}

-- the texts, the numbers of the calls that fail, and how many calls and failures there were
pub record MemoryTexts : Type 0 where
  pub texts : OpenTexts
  pub failing : List ℕ
  pub calls : ℕ
  pub faults : ℕ

-- whether the next call is one that fails
abbrev pub fails_next : MemoryTexts → Bool
fails_next inputs = is_listed inputs.failing (next_count inputs.calls)

-- what is told: what the texts tell, and how often a call failed
abbrev pub inputs_told : MemoryTexts → InputState
inputs_told inputs = texts_told inputs.faults inputs.texts

-- the texts, the size of a piece and the calls that fail stay the same
pub record KeepsInputs (old new : MemoryTexts) : Type 0 where
  pub texts : KeepsTexts old.texts new.texts
  pub failing : new.failing ≡ old.failing
