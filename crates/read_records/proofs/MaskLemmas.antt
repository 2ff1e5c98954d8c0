-- Readers that are masked one after the other.
use Rattle.std.specs.Prelude.{◌≡◌, ℕ, ◌+◌, ◌<◌, Bool, true, false, List, [], ◌∷◌, length, take, Option}
use Rattle.std.specs.Prelude.{Some, None, if◌then◌else◌, is_some, IsSome, Contains, ◌⊎◌}
use Rattle.std.proofs.Common.{refl, sym, ap, ◌∙◌, subst, inl, inr, get_or, true≢false}
use Rattle.std.proofs.lemmas.Map.Views.{tells_apart}
use Rattle.shx_term.proofs.MemberLemmas.{Contains-at, Contains-one, none_in_empty}
use Rattle.read_records.proofs.ReadingLemmas.{Contains-taken, reader_cmp_exact}
use Rattle.read_records.proofs.StoreLemmas.{is_at}
use Rattle.read_records.specs.declared.reader.Reader.{Reader}
use Rattle.read_records.specs.inner.Masks.{AreStaged, IsMaskedNow, MasksAmong}
use Rattle.read_records.specs.inner.ReaderLaws.{reader_cmp_ties, same_reader_equiv}
use Rattle.read_records.specs.Store.{SameNotes, SameStaged, StagesFor, Stored, change_for}

module _ {V : Type 0} where
  pub SameNotes-then : {old mid new : Stored V} → SameNotes old mid → SameNotes mid new → SameNotes old new
  SameNotes-then a b = record { each = λ reader. b.each reader ∙ a.each reader }

  -- ---- who may be masked

  pub MasksAmong-itself : (state : Stored V) (readers : List Reader) → MasksAmong state state readers
  MasksAmong-itself state readers = record { each = λ reader. inl refl }

  pub MasksAmong-same : {old new : Stored V} (readers : List Reader) → SameStaged old new
      → MasksAmong old new readers
  MasksAmong-same readers same = record { each = λ reader. inl (same.each reader) }

  none_staged : (change : Option (Option V)) → is_some change ≡ false → change ≡ None
  none_staged None e = refl
  none_staged (Some x) e = absurd (true≢false e)

  pub MasksAmong-staged : (old new : Stored V) (reader : Reader) → is_some (change_for old reader) ≡ false
      → StagesFor old new reader None → MasksAmong old new (reader ∷ [])
  MasksAmong-staged old new reader absent staged = record {
    each = λ other. by (is_at reader other) other refl (staged.each other);
  }
    where
      by : (b : Bool) (other : Reader) → is_at reader other ≡ b
          → change_for new other ≡ (if b then Some None else change_for old other)
          → (change_for new other ≡ change_for old other) ⊎ IsMaskedNow old new (reader ∷ []) other
      by true other tied e =
          let same = tells_apart reader_cmp_exact reader other tied in
          inr (record {
            among = (Contains-one reader other).1 (sym same);
            before = subst (λ r. change_for old r ≡ None) same (none_staged (change_for old reader) absent);
            now = e;
          })
      by false other apart e = inl e

  pub MasksAmong-then : {old mid new : Stored V} {readers : List Reader} → MasksAmong old mid readers
      → MasksAmong mid new readers → MasksAmong old new readers
  MasksAmong-then first next = record {
    each = λ reader. elim (next.each reader) [
      | inl same ↦ elim (first.each reader) [
        | inl e ↦ inl (same ∙ e)
        | inr m ↦ inr (record { among = m.among; before = m.before; now = same ∙ m.now })
      ]
      | inr m ↦ elim (first.each reader) [
        | inl e ↦ inr (record { among = m.among; before = sym e ∙ m.before; now = m.now })
        | inr n ↦ inr (record { among = m.among; before = n.before; now = m.now })
      ]
    ];
  }

  -- one of the readers
  pub MasksAmong-one : {old new : Stored V} (readers : List Reader) (i : ℕ) (d : Reader) → i < length readers
      → MasksAmong old new (get_or readers i d ∷ []) → MasksAmong old new readers
  MasksAmong-one readers i d inside one = record {
    each = λ reader. elim (one.each reader) [
      | inl same ↦ inl same
      | inr m ↦ inr (record {
        among = subst (Contains readers) (sym ((Contains-one (get_or readers i d) reader).0 m.among))
            (Contains-at readers i d inside);
        before = m.before;
        now = m.now;
      })
    ];
  }

  -- ---- for whom something is staged

  pub AreStaged-none : (state : Stored V) → AreStaged state []
  AreStaged-none state = record { each = λ reader c. absurd (none_in_empty reader c) }

  pub AreStaged-held : (state : Stored V) (reader : Reader) → IsSome (change_for state reader)
      → AreStaged state (reader ∷ [])
  AreStaged-held state reader held = record {
    each = λ other c.
        subst (λ r. IsSome (change_for state r)) (sym ((Contains-one reader other).0 c)) held;
  }

  pub AreStaged-staged : (old new : Stored V) (reader : Reader) → StagesFor old new reader None
      → AreStaged new (reader ∷ [])
  AreStaged-staged old new reader staged =
      AreStaged-held new reader (ap is_some (at_it (is_at reader reader)
      (sym (reader_cmp_ties reader reader) ∙ same_reader_equiv.refl reader) (staged.each reader)))
    where
      at_it : (b : Bool) → b ≡ true
          → change_for new reader ≡ (if b then Some None else change_for old reader)
          → change_for new reader ≡ Some None
      at_it true tied e = e
      at_it false tied e = absurd (true≢false (sym tied))

  -- one reader more
  pub AreStaged-more : {mid new : Stored V} (readers : List Reader) (i : ℕ) (d : Reader)
      → i < length readers → AreStaged mid (take i readers) → MasksAmong mid new readers
      → AreStaged new (get_or readers i d ∷ []) → AreStaged new (take (i + 1) readers)
  AreStaged-more readers i d inside before only one = record {
    each = λ reader c. elim ((Contains-taken readers i d inside reader).0 c) [
      | inl e ↦ elim (only.each reader) [
        | inl same ↦ ap is_some same ∙ before.each reader e
        | inr m ↦ ap is_some m.now
      ]
      | inr same ↦ one.each reader ((Contains-one (get_or readers i d) reader).1 same)
    ];
  }
