-- What is kept and staged, seen by a function of what is noted: by its keys alone it is what is recorded.
use Rattle.std.specs.Prelude.{◌≡◌, Bool, true, false, List, [], ◌∷◌, length, filter, Option, Some, None}
use Rattle.std.specs.Prelude.{is_some, if◌then◌else◌}
use Rattle.std.specs.Map.{values_of}
use Rattle.std.specs.Option.{option_map}
use Rattle.std.proofs.Common.{refl, sym, ap, ◌∙◌, suc}
use Rattle.std.proofs.lemmas.Map.Made.{lookup-map_values}
use Rattle.graph_view.specs.declared.key.Key.{Key}
use Rattle.read_records.proofs.StoreLemmas.{is_at}
use Rattle.read_records.specs.declared.noted.Noted.{Noted}
use Rattle.read_records.specs.declared.reader.Reader.{Reader}
use Rattle.read_records.specs.Store.{MakesStaged, Notes, SameNotes, SameStaged, StagesFor, Stored, change_for}
use Rattle.read_records.specs.Store.{changed_to, coming_for, if_noted, kept_for, note_at}
use Rattle.read_records.specs.inner.Notes.{as_recorded, notes_seen, reads_noted, stored_seen}

module _ {V W : Type 0} (f : V → W) where
  pub change_seen : (state : Stored V) (reader : Reader)
      → change_for (stored_seen f state) reader ≡ option_map (option_map f) (change_for state reader)
  change_seen state reader = lookup-map_values (option_map f) (is_at reader) state.staged

  pub kept_seen : (state : Stored V) (reader : Reader)
      → kept_for (stored_seen f state) reader ≡ option_map f (kept_for state reader)
  kept_seen state reader =
      ap if_noted (lookup-map_values (option_map f) (is_at reader) state.kept)
      ∙ inside (note_at state.kept reader)
    where
      inside : (entry : Option (Option V))
          → if_noted (option_map (option_map f) entry) ≡ option_map f (if_noted entry)
      inside None = refl
      inside (Some noted) = refl

  pub coming_seen : (state : Stored V) (reader : Reader)
      → coming_for (stored_seen f state) reader ≡ option_map f (coming_for state reader)
  coming_seen state reader =
      (λ i. changed_to (change_seen state reader i) (kept_seen state reader i))
      ∙ inside (change_for state reader) (kept_for state reader)
    where
      inside : (change : Option (Option V)) (noted : Option V)
          → changed_to (option_map (option_map f) change) (option_map f noted)
          ≡ option_map f (changed_to change noted)
      inside None noted = refl
      inside (Some change) noted = refl

  -- what is seen as kept is kept
  pub seen_kept : (state : Stored V) (reader : Reader) (seen : W)
      → kept_for (stored_seen f state) reader ≡ Some seen
      → (noted : V) × ((kept_for state reader ≡ Some noted) × (f noted ≡ seen))
  seen_kept state reader seen is =
      from (kept_for state reader) refl (sym (kept_seen state reader) ∙ is)
    where
      from : (kept : Option V) → kept_for state reader ≡ kept → option_map f kept ≡ Some seen
          → (noted : V) × ((kept_for state reader ≡ Some noted) × (f noted ≡ seen))
      from None at e = cc
      from (Some noted) at e = (noted, (at, cc))

  pub SameNotes-seen : {old new : Stored V} → SameNotes old new
      → SameNotes (stored_seen f old) (stored_seen f new)
  SameNotes-seen {old} {new} same = record {
    each = λ reader.
        kept_seen new reader ∙ ap (option_map f) (same.each reader) ∙ sym (kept_seen old reader);
  }

  pub SameStaged-seen : {old new : Stored V} → SameStaged old new
      → SameStaged (stored_seen f old) (stored_seen f new)
  SameStaged-seen {old} {new} same = record {
    each = λ reader.
        change_seen new reader
        ∙ ap (option_map (option_map f)) (same.each reader)
        ∙ sym (change_seen old reader);
  }

  pub StagesFor-seen : {old new : Stored V} {reader : Reader} {change : Option V}
      → StagesFor old new reader change
      → StagesFor (stored_seen f old) (stored_seen f new) reader (option_map f change)
  StagesFor-seen {old} {new} {reader} {change} stages = record {
    each = λ other.
        change_seen new other
        ∙ ap (option_map (option_map f)) (stages.each other)
        ∙ by (is_at reader other) other;
  }
    where
      by : (b : Bool) (other : Reader)
          → option_map (option_map f) (if b then Some change else change_for old other)
          ≡ (if b then Some (option_map f change) else change_for (stored_seen f old) other)
      by true other = refl
      by false other = sym (change_seen old other)

  pub MakesStaged-seen : {old new : Stored V} → MakesStaged old new
      → MakesStaged (stored_seen f old) (stored_seen f new)
  MakesStaged-seen {old} {new} makes = record {
    each = λ reader.
        kept_seen new reader ∙ ap (option_map f) (makes.each reader) ∙ sym (coming_seen old reader);
  }

  -- it is seen for as many
  pub count_seen : (notes : Notes V)
      → length (filter (λ noted. is_some noted) (values_of (notes_seen f notes)))
      ≡ length (filter (λ noted. is_some noted) (values_of notes))
  count_seen [] = refl
  count_seen (entry ∷ rest) = one_more entry.1 (count_seen rest)
    where
      one_more : (noted : Option V)
          → length (filter (λ n. is_some n) (values_of (notes_seen f rest)))
          ≡ length (filter (λ n. is_some n) (values_of rest))
          → length (filter (λ n. is_some n) (option_map f noted ∷ values_of (notes_seen f rest)))
          ≡ length (filter (λ n. is_some n) (noted ∷ values_of rest))
      one_more None e = e
      one_more (Some found) e = ap suc e

-- ---- what is recorded: the keys of what is noted

module _ {T : Type 0} where
  pub kept_recorded : (state : Stored (Noted T)) (reader : Reader)
      → kept_for (as_recorded state) reader ≡ reads_noted (kept_for state reader)
  kept_recorded = kept_seen (λ (n : Noted T). n.reads)

  -- what is recorded is noted
  pub recorded_noted : (state : Stored (Noted T)) (reader : Reader) (reads : List Key)
      → kept_for (as_recorded state) reader ≡ Some reads
      → (noted : Noted T) × ((kept_for state reader ≡ Some noted) × (noted.reads ≡ reads))
  recorded_noted = seen_kept (λ (n : Noted T). n.reads)

  pub SameNotes-recorded : {old new : Stored (Noted T)} → SameNotes old new
      → SameNotes (as_recorded old) (as_recorded new)
  SameNotes-recorded = SameNotes-seen (λ (n : Noted T). n.reads)

  pub SameStaged-recorded : {old new : Stored (Noted T)} → SameStaged old new
      → SameStaged (as_recorded old) (as_recorded new)
  SameStaged-recorded = SameStaged-seen (λ (n : Noted T). n.reads)

  pub StagesFor-recorded : {old new : Stored (Noted T)} {reader : Reader} {change : Option (Noted T)}
      → StagesFor old new reader change
      → StagesFor (as_recorded old) (as_recorded new) reader (reads_noted change)
  StagesFor-recorded = StagesFor-seen (λ (n : Noted T). n.reads)

  pub MakesStaged-recorded : {old new : Stored (Noted T)} → MakesStaged old new
      → MakesStaged (as_recorded old) (as_recorded new)
  MakesStaged-recorded = MakesStaged-seen (λ (n : Noted T). n.reads)
