-- Notes of readers: an entry that is made, filled or taken out, and the keys that are left.
use Rattle.std.specs.Prelude.{◌≡◌, ℕ, ◌+◌, ◌<◌, Bool, true, false, not, List, [], length, Option, Some, None}
use Rattle.std.specs.Prelude.{cond, drop, Contains, IsSome, is_some, ◌↔◌, ◌⊎◌}
use Rattle.std.specs.BTreeMap.{BTreeMap, Updates}
use Rattle.std.specs.Cmp.{eq_by_cmp_equiv}
use Rattle.std.specs.Ordering.{eq_by_cmp}
use Rattle.std.proofs.Common.{refl, sym, ap, ◌∙◌, subst, inl, inr, get_or, true≢false}
use Rattle.std.proofs.lemmas.List.{drop_more}
use Rattle.std.proofs.lemmas.Map.Views.{tells_apart}
use Rattle.shx_term.proofs.MemberLemmas.{Contains-cases, none_in_empty}
use Rattle.graph_view.specs.declared.key.Key.{Key}
use Rattle.read_records.proofs.ReadingLemmas.{reader_cmp_exact}
use Rattle.read_records.specs.declared.noted.Noted.{Noted}
use Rattle.read_records.specs.declared.reader.Reader.{Reader}
use Rattle.read_records.specs.Reader.{reader_cmp}
use Rattle.read_records.specs.Store.{MakesStaged, Notes, Stored, changed_to, if_noted, kept_for, note_at}
use Rattle.read_records.specs.inner.Notes.{AddsPlace, AreFilled, AreNeeded, AreNeededBut, AreUnder}
use Rattle.read_records.specs.inner.Notes.{ComesToSame, HasKey, HasNoted, HavePlaces, HaveRead, HaveReadBut}
use Rattle.read_records.specs.inner.Notes.{IsStore, IsUntidy, SameNoted, StandsFor, keys_noted}
use Rattle.read_records.specs.inner.Filing.{AddsSome, Filed, IsLeft, Reading, Stands, StaysIn, reading}
use Rattle.read_records.specs.inner.ReaderLaws.{reader_cmp_total}

abbrev pub is_at : Reader → Reader → Bool
is_at reader other = eq_by_cmp reader_cmp reader other

-- what may stand for a reader
abbrev pub Entry : Type 0 → Type 0
Entry T = Option (Option (Noted T))

module _ {T : Type 0} where
  -- new is old with this at the reader, or with nothing there
  pub record Puts (old new : Notes (Noted T)) (reader : Reader) (entry : Entry T) : Type 0 where
    pub each : (other : Reader) → note_at new other ≡ cond (is_at reader other) entry (note_at old other)

  -- what holds of what is put and of what stood there holds of what stands there now
  put_at : {old new : Notes (Noted T)} {reader : Reader} {entry : Entry T} → Puts old new reader entry
      → (P : Reader → Entry T → Type 0) → P reader entry
      → (other : Reader) → P other (note_at old other) → P other (note_at new other)
  put_at {old} {new} {reader} {entry} puts P here other there =
      subst (P other) (sym (puts.each other)) (by (is_at reader other) refl)
    where
      by : (b : Bool) → is_at reader other ≡ b → P other (cond b entry (note_at old other))
      by true tied = subst (λ r. P r entry) (tells_apart reader_cmp_exact reader other tied) here
      by false apart = there

  -- where something is put, or elsewhere
  put_cases : {old new : Notes (Noted T)} {reader : Reader} {entry : Entry T} → Puts old new reader entry
      → (other : Reader) → (reader ≡ other) ⊎ (note_at new other ≡ note_at old other)
  put_cases {old} {new} {reader} {entry} puts other = by (is_at reader other) refl
    where
      by : (b : Bool) → is_at reader other ≡ b → (reader ≡ other) ⊎ (note_at new other ≡ note_at old other)
      by true tied = inl (tells_apart reader_cmp_exact reader other tied)
      by false apart = inr (puts.each other ∙ ap (λ b. cond b entry (note_at old other)) apart)

  put_here : {old new : Notes (Noted T)} {reader : Reader} {entry : Entry T} → Puts old new reader entry
      → note_at new reader ≡ entry
  put_here {old} {new} {reader} {entry} puts =
      puts.each reader
      ∙ ap (λ b. cond b entry (note_at old reader)) ((eq_by_cmp_equiv reader_cmp_total).refl reader)

  pub some_put : {old new : Notes (Noted T)} {reader : Reader} {noted : Option (Noted T)}
      → Puts old new reader (Some noted) → IsSome (note_at new reader)
  some_put puts = ap is_some (put_here puts)

  -- ---- what was read

  -- an entry with the same reads, or none, changes nothing that was read
  pub SameNoted-put : {old new : Notes (Noted T)} {reader : Reader} {entry : Entry T}
      → Puts old new reader entry
      → if_noted entry ≡ if_noted (note_at old reader) → SameNoted old new
  SameNoted-put {old} puts same = record {
    each = λ other. put_at puts (λ r e. if_noted e ≡ if_noted (note_at old r)) same other refl;
  }

  pub noted_is : (entry : Entry T) (noted : Noted T) → if_noted entry ≡ Some noted
      → entry ≡ Some (Some noted)
  noted_is None noted e = cc
  noted_is (Some found) noted e = ap Some e

  HasNoted-same : {old new : Notes (Noted T)} → SameNoted old new → (reader : Reader) (key : Key)
      → HasNoted new reader key → HasNoted old reader key
  HasNoted-same {old} same reader key has = record {
    noted = has.noted;
    stands = noted_is (note_at old reader) has.noted
        (sym (same.each reader) ∙ ap if_noted has.stands);
    read = has.read;
  }

  -- a test of an entry
  pub HasKey-at : (entry : Entry T) (key : Key) (noted : Noted T) (P : Type 0)
      → P ↔ Contains noted.reads key → entry ≡ Some (Some noted) → P ↔ HasKey entry key
  HasKey-at entry key noted P test stands = (
    λ h. record { noted = noted; stands = stands; read = test.0 h },
    λ has. test.1 (subst (λ (n : Noted T). Contains n.reads key) (same has.noted noted
        (sym has.stands ∙ stands)) has.read),
  )
    where
      same : (a b : Noted T) → Some (Some a) ≡ Some (Some b) → a ≡ b
      same a b e = cc

  -- ---- who has an entry

  pub HavePlaces-then : {first second third : Notes (Noted T)}
      → HavePlaces first second → HavePlaces second third → HavePlaces first third
  HavePlaces-then a b = record { each = λ reader there. b.each reader (a.each reader there) }

  pub HavePlaces-put : {old new : Notes (Noted T)} {reader : Reader} {reads : Option (Noted T)}
      → Puts old new reader (Some reads) → HavePlaces old new
  HavePlaces-put {old} puts = record {
    each = λ other. put_at puts (λ r e. IsSome (note_at old r) → IsSome e) (λ _. refl) other (λ there. there);
  }

  -- one more among the first
  pub HavePlaces-first : {old new others : Notes (Noted T)} {reader : Reader} {entry : Entry T}
      → Puts old new reader entry → (IsSome entry → IsSome (note_at others reader)) → HavePlaces old others
      → HavePlaces new others
  HavePlaces-first {others = others} puts here entered = record {
    each = λ other. put_at puts (λ r e. IsSome e → IsSome (note_at others r)) here other (entered.each other);
  }

  -- one less among the second
  pub HavePlaces-vacated : {old new others : Notes (Noted T)} {reader : Reader} → Puts old new reader None
      → note_at others reader ≡ None → HavePlaces others old → HavePlaces others new
  HavePlaces-vacated {others = others} puts none entered = record {
    each = λ other. put_at puts (λ r e. IsSome (note_at others r) → IsSome e)
        (λ there. absurd (true≢false (sym there ∙ ap is_some none))) other (entered.each other);
  }

  pub AddsPlace-put : {old new : Notes (Noted T)} {reader : Reader} {entry : Entry T}
      → Puts old new reader entry → AddsPlace old new reader
  AddsPlace-put puts = record {
    each = λ other is. elim (put_cases puts other) [
      | inl tied ↦ inr tied
      | inr same ↦ inl (sym same ∙ is)
    ];
  }

  pub none_there : (entry : Entry T) (b : Bool) → b ≡ is_some entry → not b ≡ true → entry ≡ None
  none_there None b is absent = refl
  none_there (Some reads) b is absent = absurd (true≢false (sym absent ∙ ap not is))

  -- an entry that is made where there was none, without reads
  pub record MakesPlace (old new : Notes (Noted T)) (reader : Reader) : Type 0 where
    pub reads : SameNoted old new
    pub entries : HavePlaces old new
    pub vacant : AddsPlace old new reader

  pub MakesPlace-new : (reader : Reader) (old new : BTreeMap Reader (Option (Noted T)))
      → false ≡ is_some (note_at old.entries reader) → Updates reader_cmp old new reader (Some None)
      → MakesPlace old.entries new.entries reader
  MakesPlace-new reader old new absent updates = record {
    reads = SameNoted-put puts
        (sym (ap if_noted (none_there (note_at old.entries reader) false absent refl)));
    entries = HavePlaces-put puts;
    vacant = AddsPlace-put puts;
  }
    where
      puts : Puts old.entries new.entries reader (Some None)
      puts = record { each = updates.0 }

  -- ---- who stands under the keys

  pub AreUnder-same : {old new : Notes (Noted T)} {readings : Filed} → SameNoted old new
      → AreUnder old readings → AreUnder new readings
  AreUnder-same same indexed = record {
    each = λ reader key has. indexed.each reader key (HasNoted-same same reader key has);
  }

  pub AreUnder-stays : {entries : Notes (Noted T)} {old new : Filed} → StaysIn old new
      → AreUnder entries old → AreUnder entries new
  AreUnder-stays stays indexed = record {
    each = λ reader key has. stays.each (reading key reader) (indexed.each reader key has);
  }

  -- a reading goes that stands for nothing
  pub AreUnder-left : {entries : Notes (Noted T)} {old new : Filed} (key : Key) (reader : Reader)
      → IsLeft old new (reading key reader) → (HasNoted entries reader key → ⊥)
      → AreUnder entries old → AreUnder entries new
  AreUnder-left {entries} key reader left absent indexed = record {
    each = λ other k has. (left.each (reading k other)).1 (
      indexed.each other k has,
      λ same. absent (subst (λ (x : Reading). HasNoted entries x.reader x.key) same has),
    );
  }

  pub AreUnder-put : {old new : Notes (Noted T)} {readings : Filed} {reader : Reader} {entry : Entry T}
      → Puts old new reader entry → StandsFor readings (if_noted entry) reader
      → AreUnder old readings → AreUnder new readings
  AreUnder-put {old} {new} {readings} {reader} {entry} puts stands indexed = record {
    each = λ other key has. put_at puts (λ r e. e ≡ Some (Some has.noted) → Stands readings (reading key r))
        (λ is. (subst (λ e. StandsFor readings (if_noted e) reader) is stands).each key has.read) other
        (λ is. indexed.each other key (record { noted = has.noted; stands = is; read = has.read }))
        has.stands;
  }

  -- whoever has an entry stands under its keys
  pub StandsFor-under : {entries : Notes (Noted T)} {readings : Filed} (reader : Reader)
      (reads : Option (Noted T)) → AreUnder entries readings → note_at entries reader ≡ Some reads
      → StandsFor readings reads reader
  StandsFor-under reader None indexed is = tt
  StandsFor-under reader (Some noted) indexed is = record {
    each = λ key c. indexed.each reader key (record { noted = noted; stands = is; read = c });
  }

  -- who stood under its keys before still does
  pub record KeepsUnder (entries : Notes (Noted T)) (old new : Filed) : Type 0 where
    pub keeps : AreUnder entries old → AreUnder entries new

  -- one that is not among its keys goes
  pub KeepsUnder-left : {entries : Notes (Noted T)} {old mid new : Filed} (key : Key) (reader : Reader)
      {held : Entry T} → held ≡ note_at entries reader → IsLeft mid new (reading key reader)
      → (HasKey held key → false ≡ true) → KeepsUnder entries old mid → KeepsUnder entries old new
  KeepsUnder-left key reader is left absent kept = record {
    keeps = λ indexed.
        AreUnder-left key reader left
        (λ has. true≢false (sym (absent (subst (λ e. HasKey e key) (sym is) has)))) (kept.keeps indexed);
  }

  -- ---- whoever stands under a key has read it

  abbrev Reads : Notes (Noted T) → Notes (Noted T) → Reader → Key → Type 0
  Reads kept staged reader key = HasNoted kept reader key ⊎ HasNoted staged reader key

  -- the keys of an entry
  keys_of_entry : (entry : Entry T) (noted : Option (Noted T)) (key : Key) → entry ≡ Some noted
      → HasKey entry key → Contains (keys_noted noted) key
  keys_of_entry entry noted key is has =
      let same : Some has.noted ≡ noted = cc (is, has.stands) in
      subst (λ n. Contains (keys_noted n) key) same has.read

  entry_of_keys : (entry : Entry T) (noted : Option (Noted T)) (key : Key) → entry ≡ Some noted
      → Contains (keys_noted noted) key → HasKey entry key
  entry_of_keys entry None key is c = absurd (none_in_empty key c)
  entry_of_keys entry (Some noted) key is c = record { noted = noted; stands = is; read = c }

  SameNoted-turned : {old new : Notes (Noted T)} → SameNoted old new → SameNoted new old
  SameNoted-turned same = record { each = λ reader. sym (same.each reader) }

  Reads-same : {old new : Notes (Noted T)} (staged : Notes (Noted T)) → SameNoted old new
      → (reader : Reader) (key : Key) → Reads old staged reader key → Reads new staged reader key
  Reads-same staged same reader key h = elim h [
    | inl has ↦ inl (HasNoted-same (SameNoted-turned same) reader key has)
    | inr has ↦ inr has
  ]

  pub HaveRead-same : {old new staged : Notes (Noted T)} {readings : Filed} → SameNoted old new
      → HaveRead old staged readings → HaveRead new staged readings
  HaveRead-same {staged = staged} same read = record {
    each = λ reader key stands. Reads-same staged same reader key (read.each reader key stands);
  }

  pub HaveRead-fewer : {kept staged : Notes (Noted T)} {old new : Filed}
      → ((x : Reading) → Stands new x → Stands old x) → HaveRead kept staged old → HaveRead kept staged new
  HaveRead-fewer fewer read = record {
    each = λ reader key stands. read.each reader key (fewer (reading key reader) stands);
  }

  -- one key of what went is looked at: it goes, or is still read
  HaveReadBut-step : {kept staged : Notes (Noted T)} {old new : Filed} (reader : Reader)
      (keys : List Key) (i : ℕ) (d : Key) → i < length keys
      → ((x : Reading) → Stands new x → Stands old x)
      → (Stands new (reading (get_or keys i d) reader) → Reads kept staged reader (get_or keys i d))
      → HaveReadBut kept staged old reader (drop i keys)
      → HaveReadBut kept staged new reader (drop (i + 1) keys)
  HaveReadBut-step {kept} {staged} {old} {new} reader keys i d inside fewer here before = record {
    each = λ other key stands. elim (before.each other key (fewer (reading key other) stands)) [
      | inl has ↦ inl has
      | inr left ↦ elim (Contains-cases (get_or keys i d) key (drop (i + 1) keys)
          (subst (λ ks. Contains ks key) (drop_more keys i d inside) left.1)) [
            | inl same ↦ inl (now other key left.0 same stands)
            | inr later ↦ inr (left.0, later)
          ]
    ];
  }
    where
      now : (other : Reader) (key : Key) → reader ≡ other → key ≡ get_or keys i d
          → Stands new (reading key other) → Reads kept staged other key
      now other key tied same stands =
          subst (λ r. Reads kept staged r key) tied
          (subst (Reads kept staged reader) (sym same)
          (here (subst (λ k. Stands new (reading k reader)) same
          (subst (λ r. Stands new (reading key r)) (sym tied) stands))))

  -- it is read by what is kept, or by what is staged
  pub HaveReadBut-kept : {kept staged : Notes (Noted T)} {readings : Filed} (reader : Reader)
      (keys : List Key) (i : ℕ) (d : Key) → i < length keys → {held : Entry T} → held ≡ note_at kept reader
      → HasKey held (get_or keys i d) → HaveReadBut kept staged readings reader (drop i keys)
      → HaveReadBut kept staged readings reader (drop (i + 1) keys)
  HaveReadBut-kept reader keys i d inside is has before =
      HaveReadBut-step reader keys i d inside (λ x there. there)
      (λ _. inl (subst (λ e. HasKey e (get_or keys i d)) is has)) before

  pub HaveReadBut-staged : {kept staged : Notes (Noted T)} {readings : Filed} (reader : Reader)
      (keys : List Key) (i : ℕ) (d : Key) → i < length keys → {held : Entry T} → held ≡ note_at staged reader
      → HasKey held (get_or keys i d) → HaveReadBut kept staged readings reader (drop i keys)
      → HaveReadBut kept staged readings reader (drop (i + 1) keys)
  HaveReadBut-staged reader keys i d inside is has before =
      HaveReadBut-step reader keys i d inside (λ x there. there)
      (λ _. inr (subst (λ e. HasKey e (get_or keys i d)) is has)) before

  -- and else goes
  pub HaveReadBut-left : {kept staged : Notes (Noted T)} {old new : Filed} (reader : Reader)
      (keys : List Key) (i : ℕ) (d : Key) → i < length keys
      → IsLeft old new (reading (get_or keys i d) reader)
      → HaveReadBut kept staged old reader (drop i keys)
      → HaveReadBut kept staged new reader (drop (i + 1) keys)
  HaveReadBut-left reader keys i d inside left before =
      HaveReadBut-step reader keys i d inside (λ x there. ((left.each x).0 there).0)
      (λ there. absurd (((left.each (reading (get_or keys i d) reader)).0 there).1 refl)) before

  pub HaveRead-none : {kept staged : Notes (Noted T)} {readings : Filed} {reader : Reader} {keys : List Key}
      → keys ≡ [] → HaveReadBut kept staged readings reader keys → HaveRead kept staged readings
  HaveRead-none none but = record {
    each = λ other key stands. elim (but.each other key stands) [
      | inl has ↦ has
      | inr left ↦ absurd (none_in_empty key (subst (λ ks. Contains ks key) none left.1))
    ];
  }

  -- of some keys of a reader, those are left that are still to be looked at
  pub record IsLookedAt (kept staged : Notes (Noted T)) (old new : Filed) (reader : Reader)
      (all left : List Key) : Type 0 where
    pub keeps : HaveReadBut kept staged old reader all → HaveReadBut kept staged new reader left

  -- ---- places

  -- one is there
  pub some_there : (entry : Entry T) (b : Bool) → b ≡ is_some entry → not b ≡ false → IsSome entry
  some_there None b is there = absurd (true≢false (sym (ap not is) ∙ there))
  some_there (Some reads) b is there = refl

  pub not_vacant : (noted : Noted T) → ◌≡◌ {A = Entry T} (Some None) (Some (Some noted)) → ⊥
  not_vacant noted e = cc

  -- where nothing was noted, the entry is taken out
  pub AreNeeded-vacated : {old new others : Notes (Noted T)} {reader : Reader} → Puts old new reader None
      → AreNeededBut old others reader → AreNeeded new others
  AreNeeded-vacated {old} {new} {others} {reader} puts but = record {
    each = λ other is. elim (put_cases puts other) [
      | inl tied ↦ absurd (empty (sym (subst (λ r. note_at new r ≡ None) tied (put_here puts)) ∙ is))
      | inr same ↦ elim (but.each other (sym same ∙ is)) [
        | inl there ↦ there
        | inr tied ↦ absurd (empty (sym (subst (λ r. note_at new r ≡ None) tied (put_here puts)) ∙ is))
      ]
    ];
  }
    where
      empty : ◌≡◌ {A = Entry T} None (Some None) → ⊥
      empty e = cc

  -- or something is noted there, or among the others
  pub AreNeeded-held : {notes others : Notes (Noted T)} {reader : Reader}
      → (note_at notes reader ≡ Some None → IsSome (note_at others reader))
      → AreNeededBut notes others reader → AreNeeded notes others
  AreNeeded-held {notes} {others} {reader} held but = record {
    each = λ other is. elim (but.each other is) [
      | inl there ↦ there
      | inr tied ↦ subst (λ r. IsSome (note_at others r)) tied
          (held (subst (λ r. note_at notes r ≡ Some None) (sym tied) is))
    ];
  }

  -- ---- what is kept, what is staged, and the readings of both

  -- nothing is staged
  pub IsStore-kept : {kept staged : Notes (Noted T)} {readings : Filed} → staged ≡ []
      → AreUnder kept readings → HaveRead kept [] readings → AreFilled kept
      → IsStore kept staged readings
  IsStore-kept {kept} {readings = readings} none under read filled =
      subst (λ staged. IsStore kept staged readings) (sym none) (record {
        kept_under = under;
        staged_under = record { each = λ reader key has. absurd (true≢false (sym (ap is_some has.stands))) };
        places = record { each = λ reader there. absurd (true≢false (sym there)) };
        read = read;
        needed = record { each = λ reader is. absurd (filled.each reader is) };
      })

  -- nothing is left of what went
  pub IsStore-tidied : {kept tidied staged : Notes (Noted T)} {old new : Filed} {reader : Reader}
      {gone : Option (Noted T)} → IsUntidy kept staged old reader gone
      → (AreUnder kept old → AreUnder kept new) → (AreUnder staged old → AreUnder staged new)
      → (HaveReadBut kept staged old reader (keys_noted gone) → HaveRead kept staged new)
      → SameNoted kept tidied → (HavePlaces staged kept → HavePlaces staged tidied)
      → (AreNeededBut kept staged reader → AreNeeded tidied staged) → IsStore tidied staged new
  IsStore-tidied was first next read same places needed = record {
    kept_under = AreUnder-same same (first was.kept_under);
    staged_under = next was.staged_under;
    places = places was.places;
    read = HaveRead-same same (read was.read);
    needed = needed was.needed;
  }

  -- nothing went, and something is staged
  pub IsStore-held : {kept staged : Notes (Noted T)} {readings : Filed} {reader : Reader}
      {gone : Option (Noted T)} → IsUntidy kept staged readings reader gone → gone ≡ None
      → IsSome (note_at staged reader) → IsStore kept staged readings
  IsStore-held was none there = record {
    kept_under = was.kept_under;
    staged_under = was.staged_under;
    places = was.places;
    read = HaveRead-none (ap keys_noted none) was.read;
    needed = AreNeeded-held (λ _. there) was.needed;
  }

  -- what an entry of a reader brings
  pub record Enters (kept entered : Notes (Noted T)) (old new : Filed) (reader : Reader)
      (noted : Option (Noted T)) : Type 0 where
    pub reads : SameNoted kept entered
    pub entries : HavePlaces kept entered
    pub stays : StaysIn old new
    pub vacant : AddsPlace kept entered reader
    pub only : AddsSome old new (keys_noted noted) reader

  -- it has entered, and may stand under some of its keys
  pub IsUntidy-entered : {kept entered staged : Notes (Noted T)} {old new : Filed} {reader : Reader}
      {noted : Option (Noted T)} → IsStore kept staged old → Enters kept entered old new reader noted
      → IsUntidy entered staged new reader noted
  IsUntidy-entered {staged = staged} was enters = record {
    kept_under = AreUnder-same enters.reads (AreUnder-stays enters.stays was.kept_under);
    staged_under = AreUnder-stays enters.stays was.staged_under;
    places = HavePlaces-then was.places enters.entries;
    read = record {
      each = λ other key stands. elim (enters.only.each (reading key other) stands) [
        | inl before ↦ inl (Reads-same staged enters.reads other key (was.read.each other key before))
        | inr more ↦ inr more
      ];
    };
    needed = record {
      each = λ other is. elim (enters.vacant.each other is) [
        | inl before ↦ inl (was.needed.each other before)
        | inr tied ↦ inr tied
      ];
    };
  }

  -- and is staged, in the place of what went
  pub IsUntidy-staged : {kept entered staged changed : Notes (Noted T)} {old new : Filed} {reader : Reader}
      {noted : Option (Noted T)} → IsStore kept staged old → Enters kept entered old new reader noted
      → IsSome (note_at entered reader) → StandsFor new noted reader
      → Puts staged changed reader (Some noted)
      → IsUntidy entered changed new reader (if_noted (note_at staged reader))
  IsUntidy-staged {kept} {entered} {staged} {changed} {old} {new} {reader} {noted} was enters there stands
      puts =
      record {
        kept_under = before.kept_under;
        staged_under = AreUnder-put puts stands before.staged_under;
        places = HavePlaces-first puts (λ _. there) before.places;
        read = record {
          each = λ other key is. elim (before.read.each other key is) [
            | inl has ↦ elim has [
              | inl held ↦ inl (inl held)
              | inr held ↦ elim (put_cases puts other) [
                | inl tied ↦ inr (tied, gone other key tied held)
                | inr same ↦ inl (inr (subst (λ e. HasKey e key) (sym same) held))
              ]
            ]
            | inr more ↦ inl (inr (subst (λ r. HasNoted changed r key) more.0
                (entry_of_keys (note_at changed reader) noted key (put_here puts) more.1)))
          ];
        };
        needed = record {
          each = λ other is. elim (before.needed.each other is) [
            | inl held ↦ inl (put_at puts (λ r e. IsSome (note_at staged r) → IsSome e) (λ _. refl) other
                (λ h. h) held)
            | inr tied ↦ inr tied
          ];
        };
      }
    where
      before : IsUntidy entered staged new reader noted
      before = IsUntidy-entered was enters

      gone : (other : Reader) (key : Key) → reader ≡ other → HasNoted staged other key
          → Contains (keys_noted (if_noted (note_at staged reader))) key
      gone other key tied held =
          let here : HasNoted staged reader key = subst (λ r. HasNoted staged r key) (sym tied) held in
          subst (λ n. Contains (keys_noted n) key) (sym (ap if_noted here.stands)) here.read

  -- one that was staged goes
  pub IsUntidy-taken : {kept staged left : Notes (Noted T)} {readings : Filed} {reader : Reader}
      {noted : Option (Noted T)} → IsStore kept staged readings → note_at staged reader ≡ Some noted
      → Puts staged left reader None → IsUntidy kept left readings reader noted
  IsUntidy-taken {kept} {staged} {left} {readings} {reader} {noted} was is taken = record {
    kept_under = was.kept_under;
    staged_under = AreUnder-put taken tt was.staged_under;
    places = HavePlaces-first taken (λ there. absurd (true≢false (sym there))) was.places;
    read = record {
      each = λ other key stands. elim (was.read.each other key stands) [
        | inl has ↦ inl (inl has)
        | inr has ↦ elim (put_cases taken other) [
          | inl tied ↦ inr (
            tied,
            keys_of_entry (note_at staged reader) noted key is
                (subst (λ r. HasNoted staged r key) (sym tied) has),
          )
          | inr same ↦ inl (inr (subst (λ e. HasKey e key) (sym same) has))
        ]
      ];
    };
    needed = record {
      each = λ other none. elim (put_cases taken other) [
        | inl tied ↦ inr tied
        | inr same ↦ inl (subst IsSome (sym same) (was.needed.each other none))
      ];
    };
  }

  -- one that was staged is made
  pub IsUntidy-made : {kept made staged left : Notes (Noted T)} {readings : Filed} {reader : Reader}
      {noted gone : Option (Noted T)} → IsStore kept staged readings → note_at staged reader ≡ Some noted
      → Puts staged left reader None → Puts kept made reader (Some noted) → note_at kept reader ≡ Some gone
      → IsUntidy made left readings reader gone
  IsUntidy-made {kept} {made} {staged} {left} {readings} {reader} {noted} {gone} was is taken puts had =
      record {
        kept_under = AreUnder-put puts (StandsFor-under reader noted was.staged_under is) was.kept_under;
        staged_under = AreUnder-put taken tt was.staged_under;
        places = HavePlaces-first taken (λ there. absurd (true≢false (sym there)))
            (HavePlaces-then was.places (HavePlaces-put puts));
        read = record {
          each = λ other key stands. elim (was.read.each other key stands) [
            | inl has ↦ elim (put_cases puts other) [
              | inl tied ↦ inr (
                tied,
                keys_of_entry (note_at kept reader) gone key had
                    (subst (λ r. HasNoted kept r key) (sym tied) has),
              )
              | inr same ↦ inl (inl (subst (λ e. HasKey e key) (sym same) has))
            ]
            | inr has ↦ elim (put_cases taken other) [
              | inl tied ↦ inl (inl (now other key tied has))
              | inr same ↦ inl (inr (subst (λ e. HasKey e key) (sym same) has))
            ]
          ];
        };
        needed = record {
          each = λ other none. elim (put_cases puts other) [
            | inl tied ↦ inr tied
            | inr same ↦ elim (put_cases taken other) [
              | inl tied ↦ inr tied
              | inr left_same ↦ inl (subst IsSome (sym left_same)
                  (was.needed.each other (sym same ∙ none)))
            ]
          ];
        };
      }
    where
      now : (other : Reader) (key : Key) → reader ≡ other → HasNoted staged other key
          → HasNoted made other key
      now other key tied has =
          subst (λ r. HasNoted made r key) tied
          (subst (λ e. HasKey e key) (is ∙ sym (put_here puts))
          (subst (λ r. HasNoted staged r key) (sym tied) has))

  -- once all is made, nothing is staged, and what is recorded is what it came to
  pub MakesStaged-made : {old mid new : Stored (Noted T)} → ComesToSame old mid → ComesToSame mid new
      → new.staged ≡ [] → MakesStaged old new
  MakesStaged-made {new = new} before made done = record {
    each = λ reader.
        sym (ap (λ staged. changed_to (note_at staged reader) (kept_for new reader)) done)
        ∙ made.each reader
        ∙ before.each reader;
  }
