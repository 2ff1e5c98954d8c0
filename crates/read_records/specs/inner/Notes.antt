-- Notes of readers: a value and the keys that were read for it; and whether whoever has read a key stands
-- under it.
use Rattle.std.specs.Prelude.{◌≡◌, List, [], Option, Some, None, Contains, IsSome, ◌⊎◌, map}
use Rattle.std.specs.Option.{option_map}
use Rattle.graph_view.specs.declared.key.Key.{Key}
use Rattle.read_records.specs.declared.noted.Noted.{Noted}
use Rattle.read_records.specs.declared.reader.Reader.{Reader}
use Rattle.read_records.specs.Records.{Recorded}
use Rattle.read_records.specs.Store.{Notes, Stored, coming_for, if_noted, note_at}
use Rattle.read_records.specs.inner.Filing.{Filed, Stands, StandsUnderEach, reading}

module _ {V W : Type 0} (f : V → W) where
  -- what is kept and staged, each seen by a function
  abbrev pub notes_seen : Notes V → Notes W
  notes_seen notes = map (λ e. (e.0, option_map f e.1)) notes

  abbrev pub stored_seen : Stored V → Stored W
  stored_seen state = record { kept = notes_seen state.kept; staged = notes_seen state.staged }

module _ {T : Type 0} where
  -- the keys that were read, without what is noted beside them
  abbrev pub reads_noted : Option (Noted T) → Option (List Key)
  reads_noted noted = option_map (λ n. n.reads) noted

  abbrev pub as_recorded : Stored (Noted T) → Recorded
  as_recorded state = stored_seen (λ (n : Noted T). n.reads) state

  -- under each key that stands for it somewhere, if any does
  abbrev pub StandsFor : Filed → Option (Noted T) → Reader → Type 0
  StandsFor readings None reader = Unit
  StandsFor readings (Some noted) reader = StandsUnderEach readings noted.reads reader

  -- a key is among those of an entry
  pub record HasKey (entry : Option (Option (Noted T))) (key : Key) : Type 0 where
    pub noted : Noted T
    pub stands : entry ≡ Some (Some noted)
    pub read : Contains noted.reads key

  -- a key is among those that stand for a reader
  abbrev pub HasNoted : Notes (Noted T) → Reader → Key → Type 0
  HasNoted notes reader key = HasKey (note_at notes reader) key

  -- whoever has read a key stands under it
  pub record AreUnder (notes : Notes (Noted T)) (readings : Filed) : Type 0 where
    pub each : (reader : Reader) (key : Key) → HasNoted notes reader key
        → Stands readings (reading key reader)

  -- whoever has an entry among the first has one among the second
  pub record HavePlaces (first second : Notes (Noted T)) : Type 0 where
    pub each : (reader : Reader) → IsSome (note_at first reader) → IsSome (note_at second reader)

  -- ---- that no more is held than is needed

  -- the keys of what is noted, if anything is
  abbrev pub keys_noted : Option (Noted T) → List Key
  keys_noted None = []
  keys_noted (Some noted) = noted.reads

  -- whoever stands under a key has read it, by one of two entries
  pub record HaveRead (kept staged : Notes (Noted T)) (readings : Filed) : Type 0 where
    pub each : (reader : Reader) (key : Key) → Stands readings (reading key reader)
        → HasNoted kept reader key ⊎ HasNoted staged reader key

  -- the same, but that one reader may stand under these keys
  pub record HaveReadBut (kept staged : Notes (Noted T)) (readings : Filed) (reader : Reader)
      (keys : List Key) : Type 0 where
    pub each : (other : Reader) (key : Key) → Stands readings (reading key other)
        → (HasNoted kept other key ⊎ HasNoted staged other key) ⊎ ((reader ≡ other) × Contains keys key)

  -- something is noted for whoever has an entry
  pub record AreFilled (notes : Notes (Noted T)) : Type 0 where
    pub each : (reader : Reader) → note_at notes reader ≡ Some None → ⊥

  -- an entry where nothing is noted is there for one among others
  pub record AreNeeded (notes others : Notes (Noted T)) : Type 0 where
    pub each : (reader : Reader) → note_at notes reader ≡ Some None → IsSome (note_at others reader)

  -- the same, but for one reader
  pub record AreNeededBut (notes others : Notes (Noted T)) (reader : Reader) : Type 0 where
    pub each : (other : Reader) → note_at notes other ≡ Some None
        → IsSome (note_at others other) ⊎ (reader ≡ other)

  -- an entry is made for one reader at most, where nothing is noted
  pub record AddsPlace (old new : Notes (Noted T)) (reader : Reader) : Type 0 where
    pub each : (other : Reader) → note_at new other ≡ Some None
        → (note_at old other ≡ Some None) ⊎ (reader ≡ other)

  -- ---- what is kept, what is staged, and the readings of both

  -- what is always so
  pub record IsStore (kept staged : Notes (Noted T)) (readings : Filed) : Type 0 where
    pub kept_under : AreUnder kept readings
    pub staged_under : AreUnder staged readings
    pub places : HavePlaces staged kept
    pub read : HaveRead kept staged readings
    pub needed : AreNeeded kept staged

  -- and where something of a reader went, which may have left its keys and an entry behind
  pub record IsUntidy (kept staged : Notes (Noted T)) (readings : Filed) (reader : Reader)
      (gone : Option (Noted T)) : Type 0 where
    pub kept_under : AreUnder kept readings
    pub staged_under : AreUnder staged readings
    pub places : HavePlaces staged kept
    pub read : HaveReadBut kept staged readings reader (keys_noted gone)
    pub needed : AreNeededBut kept staged reader

  -- ---- what changes

  -- the same stands for each
  pub record SameNoted (old new : Notes (Noted T)) : Type 0 where
    pub each : (reader : Reader) → if_noted (note_at new reader) ≡ if_noted (note_at old reader)

  -- what is staged, made, comes to the same
  pub record ComesToSame (old new : Stored (Noted T)) : Type 0 where
    pub each : (reader : Reader) → coming_for new reader ≡ coming_for old reader
