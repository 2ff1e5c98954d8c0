-- Masks: that nothing is kept is staged for some readers, but where something is staged.
use Rattle.std.specs.Prelude.{◌≡◌, List, Some, None, Contains, IsSome, ◌⊎◌}
use Rattle.read_records.specs.declared.reader.Reader.{Reader}
use Rattle.read_records.specs.Store.{Stored, change_for}

module _ {V : Type 0} where
  -- that is staged now for one of the readers, for which nothing was
  pub record IsMaskedNow (old new : Stored V) (readers : List Reader) (reader : Reader) : Type 0 where
    pub among : Contains readers reader
    pub before : change_for old reader ≡ None
    pub now : change_for new reader ≡ Some None

  -- that is staged for some of the readers, for which nothing was; for all others the same
  pub record MasksAmong (old new : Stored V) (readers : List Reader) : Type 0 where
    pub each : (reader : Reader)
        → (change_for new reader ≡ change_for old reader) ⊎ IsMaskedNow old new readers reader

  -- something is staged for each of the readers
  pub record AreStaged (state : Stored V) (readers : List Reader) : Type 0 where
    pub each : (reader : Reader) → Contains readers reader → IsSome (change_for state reader)
