-- What is gathered from notes: whoever has read a key stands under it; and what is kept of a list.
use Rattle.std.specs.Prelude.{◌≡◌, List, [], ◌∷◌, Option, Some, None, Contains, map, ◌⊎◌}
use Rattle.std.specs.BTreeMap as tree_map
use Rattle.std.specs.BTreeMap.{BTreeMap}
use Rattle.std.specs.Cmp.{eq_by_cmp_equiv}
use Rattle.std.specs.List.{IsDistinct}
use Rattle.std.specs.List.Sorted.{IsStrictlySortedBy}
use Rattle.std.specs.Map.{keys_of, lookup}
use Rattle.std.specs.Option.{option_map}
use Rattle.std.specs.Ordering.{eq_by_cmp}
use Rattle.std.proofs.Common.{refl, sym, ap, ◌∙◌, subst, inl, inr}
use Rattle.std.proofs.lemmas.Map.Keys.{IsDistinct-from_sorted}
use Rattle.std.proofs.lemmas.Map.Made.{keys_of-map_values, lookup-map_values, update_all_none}
use Rattle.std.proofs.lemmas.Map.Views.{Contains-from_lookup, lookup-from_Contains, tells_apart}
use Rattle.shx_term.proofs.MemberLemmas.{Contains-cases, Contains-head, Contains-tail, none_in_empty}
use Rattle.graph_view.specs.declared.key.Key.{Key}
use Rattle.graph_view.specs.declared.key.Key.TheVariants.{Out, In, Subject, Predicate, Answer}
use Rattle.read_records.proofs.ReadingLemmas.{reader_cmp_exact}
use Rattle.read_records.proofs.SeenLemmas.{kept_recorded}
use Rattle.read_records.proofs.StoreLemmas.{is_at}
use Rattle.read_records.specs.declared.noted.Noted.{Noted}
use Rattle.read_records.specs.declared.posting.Posting.{Posting}
use Rattle.read_records.specs.declared.reader.Reader.{Reader}
use Rattle.read_records.specs.declared.reader.Reader.TheVariants.{OfPair, OfTarget}
use Rattle.read_records.specs.Reader.{reader_cmp, same_reader}
use Rattle.read_records.specs.Records.{reads_of}
use Rattle.read_records.specs.Store.{Notes, if_noted, kept_for, note_at}
use Rattle.read_records.specs.inner.Notes.{AreFilled, AreUnder, HaveRead, as_recorded, reads_noted}
use Rattle.read_records.specs.inner.ReaderLaws.{reader_cmp_ties, reader_cmp_total}
use Rattle.read_records.specs.inner.Filing.{AddsSome, Filed, Stands, StandsUnderEach, StaysIn, no_postings}
use Rattle.read_records.specs.inner.Filing.{nothing_filed, posting_of, reading, tree}

-- ---- nobody stands where nothing is filed

none_in_tree : (key : Key) (x : Posting) → Contains (tree key no_postings) x → ⊥
none_in_tree (Out s p) x c = none_in_empty x c
none_in_tree (In p o) x c = none_in_empty x c
none_in_tree (Subject s) x c = none_in_empty x c
none_in_tree (Predicate p) x c = none_in_empty x c
none_in_tree (Answer shape node) x c = none_in_empty x c

none_filed : (reader : Reader) (key : Key) → Stands nothing_filed (reading key reader) → ⊥
none_filed (OfTarget shape) key c = none_in_tree key (posting_of (reading key (OfTarget shape))) c
none_filed (OfPair p) key c = none_in_tree key (posting_of (reading key (OfPair p))) c

-- ---- the readings of notes

module _ {T : Type 0} where
  -- of the entries that are not left, the readings were gathered
  pub record AreGathered (all left : Notes (Noted T)) (readings : Filed) : Type 0 where
    pub each : (reader : Reader) (noted : Noted T) → Contains all (reader, Some noted)
        → Contains left (reader, Some noted) ⊎ StandsUnderEach readings noted.reads reader

  -- one entry less is left
  pub AreGathered-next : {all left next : Notes (Noted T)} {old new : Filed} (reader : Reader)
      (entry : Option (Noted T)) → left ≡ (reader, entry) ∷ next → StaysIn old new
      → ((noted : Noted T) → entry ≡ Some noted → StandsUnderEach new noted.reads reader)
      → AreGathered all left old → AreGathered all next new
  AreGathered-next {next = next} {new = new} reader entry is stays stands before = record {
    each = λ other noted c. elim (before.each other noted c) [
      | inl there ↦
          elim (Contains-cases (reader, entry) (other, Some noted) next
          (subst (λ es. Contains es (other, Some noted)) is there)) [
            | inl same ↦ inr (subst (StandsUnderEach new noted.reads) (sym (ap (λ e. e.0) same))
                (stands noted (sym (ap (λ e. e.1) same))))
            | inr later ↦ inl later
          ]
      | inr under ↦ inr (record { each = λ key c. stays.each (reading key other) (under.each key c) })
    ];
  }

  pub same_noted : {a b : Noted T} → Some a ≡ Some b → a.reads ≡ b.reads
  same_noted is = cc

  -- once none is left, whoever has read a key stands under it
  pub AreUnder-gathered : {all left : Notes (Noted T)} {readings : Filed}
      → AreGathered all left readings → left ≡ [] → AreUnder all readings
  AreUnder-gathered {all} {left} {readings} gathered none = record {
    each = λ reader key has. elim (gathered.each reader has.noted
        (Contains-from_lookup (tells_apart reader_cmp_exact) reader (Some has.noted) all has.stands)) [
          | inl there ↦
              absurd (none_in_empty _ (subst (λ es. Contains es (reader, Some has.noted)) none there))
          | inr under ↦ under.each key has.read
        ];
  }

  -- ---- nobody stands there beside

  -- whoever stands under a key has it in one of the entries, among which are those that are left
  pub record AreOfEntries (all left : Notes (Noted T)) (readings : Filed) : Type 0 where
    pub of_all : (reader : Reader) (entry : Option (Noted T)) → Contains left (reader, entry)
        → Contains all (reader, entry)
    pub each : (reader : Reader) (key : Key) → Stands readings (reading key reader)
        → (noted : Noted T) × Contains all (reader, Some noted) × Contains noted.reads key

  pub AreOfEntries-none : {all : Notes (Noted T)} → AreOfEntries all all nothing_filed
  AreOfEntries-none = record {
    of_all = λ reader entry c. c;
    each = λ reader key stands. absurd (none_filed reader key stands);
  }

  pub at_noted : {left next : Notes (Noted T)} {entry : Option (Noted T)} {noted : Noted T} (reader : Reader)
      → left ≡ (reader, entry) ∷ next → entry ≡ Some noted → left ≡ (reader, Some noted) ∷ next
  at_noted {next = next} reader is same = is ∙ ap (λ e. (reader, e) ∷ next) same

  -- the readings of one entry more
  pub AreOfEntries-next : {all left next : Notes (Noted T)} {old new : Filed} (reader : Reader)
      (noted : Noted T) → left ≡ (reader, Some noted) ∷ next → AddsSome old new noted.reads reader
      → AreOfEntries all left old → AreOfEntries all next new
  AreOfEntries-next {all} {left} {next} reader noted is only before = record {
    of_all = λ other entry c. before.of_all other entry
        (subst (λ es. Contains es (other, entry)) (sym is)
        (Contains-tail (reader, Some noted) (other, entry) next c));
    each = λ other key stands. elim (only.each (reading key other) stands) [
      | inl was ↦ before.each other key was
      | inr more ↦ (noted, subst (λ r. Contains all (r, Some noted)) more.0 there, more.1)
    ];
  }
    where
      there : Contains all (reader, Some noted)
      there =
          before.of_all reader (Some noted)
          (subst (λ es. Contains es (reader, Some noted)) (sym is) (Contains-head (reader, Some noted) next))

  -- or of one that has none
  pub AreOfEntries-skip : {all left next : Notes (Noted T)} {readings : Filed} (reader : Reader)
      (entry : Option (Noted T)) → left ≡ (reader, entry) ∷ next → AreOfEntries all left readings
      → AreOfEntries all next readings
  AreOfEntries-skip {next = next} reader entry is before = record {
    of_all = λ other entry_there c. before.of_all other entry_there
        (subst (λ es. Contains es (other, entry_there)) (sym is)
        (Contains-tail (reader, entry) (other, entry_there) next c));
    each = before.each;
  }

  -- where no reader has two entries, it has read the key
  pub HaveRead-gathered : {all : Notes (Noted T)} {readings : Filed}
      {left : Notes (Noted T)} → IsStrictlySortedBy reader_cmp (keys_of all)
      → AreOfEntries all left readings → HaveRead all [] readings
  HaveRead-gathered {all} sorted are = record {
    each = λ reader key stands.
        let found = are.each reader key stands in
        inl (record {
          noted = found.0;
          stands = lookup-from_Contains (eq_by_cmp_equiv reader_cmp_total) reader (Some found.0) all
              (IsDistinct-from_sorted reader_cmp (keys_of all) sorted) found.1;
          read = found.2;
        });
  }

-- ---- what is kept of a list of readers

distinct_at : (readers : List Reader) → IsDistinct same_reader readers
    → IsDistinct (eq_by_cmp reader_cmp) readers
distinct_at readers once = subst (λ eq. IsDistinct eq readers) (λ i a b. reader_cmp_ties a b i) once

module _ {A T : Type 0} (noted : A → Noted T) where
  abbrev pub as_note : Reader × A → Reader × Option (Noted T)
  as_note e = (e.0, Some (noted e.1))

  -- what stands for a reader
  given : (all : List (Reader × A)) (kept : BTreeMap Reader (Option (Noted T)))
      → tree_map.IsFromIterResult reader_cmp (map as_note all) kept → IsDistinct same_reader (keys_of all)
      → (reader : Reader)
      → note_at kept.entries reader ≡ option_map (λ a. Some (noted a)) (lookup (is_at reader) all)
  given all kept made once reader =
      made.0 reader
      ∙ update_all_none (eq_by_cmp_equiv reader_cmp_total) (eq_by_cmp reader_cmp) (λ x y. refl)
      (map as_note all) reader
      (subst (IsDistinct (eq_by_cmp reader_cmp)) (sym (keys_of-map_values (λ a. Some (noted a)) all))
      (distinct_at (keys_of all) once))
      ∙ lookup-map_values (λ a. Some (noted a)) (is_at reader) all

  -- exactly these are kept
  pub kept_of_all : (all : List (Reader × A)) (kept : BTreeMap Reader (Option (Noted T)))
      → tree_map.IsFromIterResult reader_cmp (map as_note all) kept → IsDistinct same_reader (keys_of all)
      → (reader : Reader)
      → kept_for (record { kept = kept.entries; staged = [] }) reader
      ≡ option_map noted (lookup (is_at reader) all)
  kept_of_all all kept made once reader =
      ap if_noted (given all kept made once reader) ∙ inside (lookup (is_at reader) all)
    where
      inside : (found : Option A)
          → if_noted (option_map (λ a. Some (noted a)) found) ≡ option_map noted found
      inside None = refl
      inside (Some a) = refl

  -- something is noted for each of them
  pub AreFilled-of_all : (all : List (Reader × A)) (kept : BTreeMap Reader (Option (Noted T)))
      → tree_map.IsFromIterResult reader_cmp (map as_note all) kept → IsDistinct same_reader (keys_of all)
      → AreFilled kept.entries
  AreFilled-of_all all kept made once = record {
    each = λ reader is. filled (lookup (is_at reader) all) (sym (given all kept made once reader) ∙ is);
  }
    where
      filled : (found : Option A) → option_map (λ a. Some (noted a)) found ≡ Some None → ⊥
      filled None e = cc
      filled (Some a) e = cc

-- ---- what is recorded of a list of readers and their reads

abbrev pub without_value : List Key → Noted (Unit {0})
without_value reads = record { value = tt; reads = reads }

pub recorded_of_all : (all : List (Reader × List Key)) (kept : BTreeMap Reader (Option (Noted (Unit {0}))))
    → tree_map.IsFromIterResult reader_cmp (map (as_note without_value) all) kept
    → IsDistinct same_reader (keys_of all) → (reader : Reader)
    → reads_of (as_recorded (record { kept = kept.entries; staged = [] })) reader
    ≡ lookup (eq_by_cmp reader_cmp reader) all
recorded_of_all all kept made once reader =
    kept_recorded (record { kept = kept.entries; staged = [] }) reader
    ∙ ap reads_noted (kept_of_all without_value all kept made once reader)
    ∙ back (lookup (is_at reader) all)
  where
    back : (found : Option (List Key)) → reads_noted (option_map without_value found) ≡ found
    back None = refl
    back (Some reads) = refl
