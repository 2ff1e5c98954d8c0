-- Whom a change reaches: the readers that are found under its keys, in order, each once.
use Rattle.std.specs.Prelude.{◌≡◌, ℕ, ◌+◌, ◌<◌, List, [], ◌∷◌, ◌++◌, length, take, Contains, ◌↔◌, ◌⊎◌}
use Rattle.std.specs.Prelude.{IsPermutation, Some, map}
use Rattle.std.specs.List.{dedup}
use Rattle.std.specs.List.Sorted.{IsSorted}
use Rattle.std.proofs.Common.{refl, sym, ap, ◌∙◌, subst, inl, inr, get_or}
use Rattle.std.proofs.lemmas.List.Elements.{Contains-append_left, Contains-append_right}
use Rattle.std.proofs.lemmas.List.Elements.{Contains-append_cases}
use Rattle.shx_term.specs.InOrder.{IsExactOrder, Lists}
use Rattle.shx_term.specs.declared.triple.Triple.{Triple}
use Rattle.shx_term.proofs.MemberLemmas.{none_in_empty, Contains-from_map, Contains-map, Contains-one}
use Rattle.comp_core.specs.declared.pair.Pair.{Pair}
use Rattle.comp_core.specs.Pairs.{answer_key}
use Rattle.graph_view.specs.declared.key.Key.{Key}
use Rattle.graph_view.specs.Key.{key_cmp}
use Rattle.read_records.proofs.ReadingLemmas.{reader_cmp_exact, Contains-taken}
use Rattle.read_records.proofs.SeenLemmas.{kept_recorded, recorded_noted}
use Rattle.read_records.proofs.StoreLemmas.{noted_is}
use Rattle.read_records.proofs.TouchedLemmas.{Lists-sorted}
use Rattle.read_records.specs.declared.noted.Noted.{Noted}
use Rattle.read_records.specs.declared.reader.Reader.{Reader}
use Rattle.read_records.specs.Reader.{reader_cmp, same_reader}
use Rattle.read_records.specs.Records.{IsReachedBy, IsTouched, IsTouchedByAny, Recorded, RestsOnAny}
use Rattle.read_records.specs.Records.{reads_of}
use Rattle.read_records.specs.Store.{Notes, Stored, if_noted, note_at}
use Rattle.read_records.specs.inner.ReaderLaws.{reader_cmp_total, same_reader_equiv, same_reader_exact}
use Rattle.read_records.specs.inner.Notes.{AreUnder, HasNoted, as_recorded, reads_noted}
use Rattle.read_records.specs.inner.Filing.{Filed, Stands, reading}
use Rattle.read_records.specs.inner.Touched.{IsTouchedKey}

reader_order : IsExactOrder reader_cmp
reader_order = record { total = reader_cmp_total; exact = reader_cmp_exact }

module _ {T : Type 0} where
  -- ---- the readers of a key

  -- new has, beside the old ones, those of some readers that have read the key
  pub record AddsNoted (entries : Notes (Noted T)) (key : Key) (readers old new : List Reader) : Type 0 where
    pub each : (r : Reader)
        → Contains new r ↔ (Contains old r ⊎ (Contains readers r × HasNoted entries r key))

  module _ (entries : Notes (Noted T)) (key : Key) where
    module _ (readers : List Reader) (i : ℕ) (d : Reader) (inside : i < length readers)
        (old found : List Reader) (before : AddsNoted entries key (take i readers) old found)
      where
        -- the next of them has read it
        pub AddsNoted-push : HasNoted entries (get_or readers i d) key
            → AddsNoted entries key (take (i + 1) readers) old (found ++ get_or readers i d ∷ [])
        AddsNoted-push has = record {
          each = λ r.
              let taken = Contains-taken readers i d inside r in
              let first = before.each r in (
                λ c. elim (Contains-append_cases found (get_or readers i d ∷ []) r c) [
                  | inl e ↦ elim (first.0 e) [
                    | inl h ↦ inl h
                    | inr h ↦ inr (taken.1 (inl h.0), h.1)
                  ]
                  | inr e ↦
                      let same = (Contains-one (get_or readers i d) r).0 e in
                      inr (taken.1 (inr same), subst (λ x. HasNoted entries x key) (sym same) has)
                ],
                λ h. elim h [
                  | inl e ↦ Contains-append_left found (get_or readers i d ∷ []) r (first.1 (inl e))
                  | inr e ↦ elim (taken.0 e.0) [
                    | inl c ↦ Contains-append_left found (get_or readers i d ∷ []) r (first.1 (inr (c, e.1)))
                    | inr same ↦ Contains-append_right found (get_or readers i d ∷ []) r
                        ((Contains-one (get_or readers i d) r).1 same)
                  ]
                ],
              );
        }

        -- or it has not
        pub AddsNoted-skip : (HasNoted entries (get_or readers i d) key → ⊥)
            → AddsNoted entries key (take (i + 1) readers) old found
        AddsNoted-skip absent = record {
          each = λ r.
              let taken = Contains-taken readers i d inside r in
              let first = before.each r in (
                λ c. elim (first.0 c) [ inl h ↦ inl h | inr h ↦ inr (taken.1 (inl h.0), h.1) ],
                λ h. first.1 (elim h [
                  | inl e ↦ inl e
                  | inr e ↦ elim (taken.0 e.0) [
                    | inl c ↦ inr (c, e.1)
                    | inr same ↦ absurd (absent (subst (λ x. HasNoted entries x key) same e.1))
                  ]
                ]),
              );
        }

    -- once all that stand under it were looked at, all that have read it are there
    pub AddsNoted-all : {readings : Filed} {readers old new : List Reader}
        → AreUnder entries readings → ((r : Reader) → Contains readers r ↔ Stands readings (reading key r))
        → AddsNoted entries key readers old new → (r : Reader)
        → Contains new r ↔ (Contains old r ⊎ HasNoted entries r key)
    AddsNoted-all indexed under added r = (
      λ c. elim ((added.each r).0 c) [ inl h ↦ inl h | inr h ↦ inr h.1 ],
      λ h. (added.each r).1 (elim h [
        | inl c ↦ inl c
        | inr has ↦ inr ((under r).1 (indexed.each r key has), has)
      ]),
    )

  -- ---- the readers of some keys

  -- the readers are those that have read one of the keys
  pub record AreNotedBy (entries : Notes (Noted T)) (keys : List Key) (readers : List Reader) : Type 0 where
    pub each : (r : Reader)
        → Contains readers r ↔ ((key : Key) × (Contains keys key × HasNoted entries r key))

  pub AreNotedBy-none : (entries : Notes (Noted T)) → AreNotedBy entries [] []
  AreNotedBy-none entries = record {
    each = λ r. (λ c. absurd (none_in_empty r c), λ h. absurd (none_in_empty h.0 h.1.0));
  }

  -- one key more
  pub AreNotedBy-take_one : (entries : Notes (Noted T)) (keys : List Key) (i : ℕ) (d : Key) → i < length keys
      → {found new : List Reader} → AreNotedBy entries (take i keys) found
      → ((r : Reader) → Contains new r ↔ (Contains found r ⊎ HasNoted entries r (get_or keys i d)))
      → AreNotedBy entries (take (i + 1) keys) new
  AreNotedBy-take_one entries keys i d inside before added = record {
    each = λ r. (
      λ c. elim ((added r).0 c) [
        | inl e ↦
            let h = (before.each r).0 e in
            (h.0, ((Contains-taken keys i d inside h.0).1 (inl h.1.0), h.1.1))
        | inr has ↦
            (get_or keys i d, ((Contains-taken keys i d inside (get_or keys i d)).1 (inr refl), has))
      ],
      λ h. (added r).1 (elim ((Contains-taken keys i d inside h.0).0 h.1.0) [
        | inl c ↦ inl ((before.each r).1 (h.0, (c, h.1.1)))
        | inr same ↦ inr (subst (HasNoted entries r) same h.1.1)
      ]),
    );
  }

  -- they are listed once they are sorted and each is kept once
  pub Lists-noted : (entries : Notes (Noted T)) (keys : List Key) (found sorted : List Reader)
      → AreNotedBy entries keys found → IsPermutation found sorted → IsSorted reader_cmp sorted
      → Lists reader_cmp (λ r. (key : Key) × (Contains keys key × HasNoted entries r key))
      (dedup same_reader sorted)
  Lists-noted entries keys found sorted are =
      Lists-sorted reader_cmp reader_order same_reader same_reader_equiv same_reader_exact found sorted
      are.each

-- ---- whom triples touch, and who rests on answers

-- what is recorded of the reader has the key
record HasRead (state : Recorded) (r : Reader) (key : Key) : Type 0 where
  reads : List Key
  recorded : reads_of state r ≡ Some reads
  read : Contains reads key

module _ {T : Type 0} where
  -- it has what is noted
  has_read : (state : Stored (Noted T)) (r : Reader) (key : Key)
      → HasNoted state.kept r key ↔ HasRead (as_recorded state) r key
  has_read state r key = (
    λ has. record {
      reads = has.noted.reads;
      recorded = kept_recorded state r ∙ ap (λ entry. reads_noted (if_noted entry)) has.stands;
      read = has.read;
    },
    λ h.
        let noted = recorded_noted state r h.reads h.recorded in
        record {
          noted = noted.0;
          stands = noted_is (note_at state.kept r) noted.0 noted.1.0;
          read = subst (λ keys. Contains keys key) (sym noted.1.1) h.read;
        },
  )

  -- whoever has one of the keys
  abbrev HasOne : Stored (Noted T) → List Key → Reader → Type 0
  HasOne state keys r = (key : Key) × (Contains keys key × HasNoted state.kept r key)

  -- whom one of the triples touches has read one of their keys
  touched : (state : Stored (Noted T)) (ts : List Triple) (keys : List Key)
      → Lists key_cmp (IsTouchedKey ts) keys → (r : Reader)
      → HasOne state keys r ↔ IsTouchedByAny (as_recorded state) ts r
  touched state ts keys own r = (
    λ h.
        let by = (own.each h.0).0 h.1.0 in
        let at = (has_read state r h.0).0 h.1.1 in
        record {
          triple = by.triple;
          changes = by.changes;
          touched = record {
            reads = at.reads;
            recorded = at.recorded;
            touched = (h.0, (at.read, by.touches));
          };
        },
    λ h.
        let at = h.touched.touched in (
          at.0,
          (
            (own.each at.0).1 (record { triple = h.triple; changes = h.changes; touches = at.1.1 }),
            (has_read state r at.0).1
                (record { reads = h.touched.reads; recorded = h.touched.recorded; read = at.1.0 }),
          ),
        ),
  )

  -- who rests on one of the pairs has read the key of its answer
  rests : (state : Stored (Noted T)) (answers : List Pair) (r : Reader)
      → HasOne state (map answer_key answers) r ↔ RestsOnAny (as_recorded state) answers r
  rests state answers r = (
    λ h.
        let of = Contains-from_map answer_key answers h.0 h.1.0 in
        let at = (has_read state r h.0).0 h.1.1 in
        record {
          pair = of.0;
          among = of.1;
          reads = at.reads;
          recorded = at.recorded;
          read = subst (Contains at.reads) of.2 at.read;
        },
    λ h. (
      answer_key h.pair,
      (
        Contains-map answer_key answers h.pair h.among,
        (has_read state r (answer_key h.pair)).1
            (record { reads = h.reads; recorded = h.recorded; read = h.read }),
      ),
    ),
  )

  pub Lists-reached : (state : Stored (Noted T)) (ts : List Triple) (answers : List Pair)
      (own keys : List Key) (found : List Reader) → Lists key_cmp (IsTouchedKey ts) own
      → keys ≡ own ++ map answer_key answers → Lists reader_cmp (HasOne state keys) found
      → Lists reader_cmp (IsReachedBy (as_recorded state) ts answers) found
  Lists-reached state ts answers own keys found lists_own are lists = record {
    sorted = lists.sorted;
    each = λ r.
        let by = touched state ts own lists_own r in
        let on = rests state answers r in (
          λ c.
              let h = (lists.each r).0 c in
              elim (Contains-append_cases own (map answer_key answers) h.0
              (subst (λ ks. Contains ks h.0) are h.1.0)) [
                | inl k ↦ inl (by.0 (h.0, (k, h.1.1)))
                | inr k ↦ inr (on.0 (h.0, (k, h.1.1)))
              ],
          λ h. (lists.each r).1 (elim h [
            | inl touched ↦
                let k = by.1 touched in (
                  k.0,
                  (
                    subst (λ ks. Contains ks k.0) (sym are)
                        (Contains-append_left own (map answer_key answers) k.0 k.1.0),
                    k.1.1,
                  ),
                )
            | inr rests ↦
                let k = on.1 rests in (
                  k.0,
                  (
                    subst (λ ks. Contains ks k.0) (sym are)
                        (Contains-append_right own (map answer_key answers) k.0 k.1.0),
                    k.1.1,
                  ),
                )
          ]),
        );
  }

-- of one triple, and no answers
pub Lists-one : {state : Recorded} {t : Triple} {found : List Reader}
    → Lists reader_cmp (IsReachedBy state (t ∷ []) []) found → Lists reader_cmp (IsTouched state t) found
Lists-one {state} {t} lists = record {
  sorted = lists.sorted;
  each = λ r. (
    λ c. elim ((lists.each r).0 c) [
      | inl h ↦ subst (λ u. IsTouched state u r) ((Contains-one t h.triple).0 h.changes) h.touched
      | inr h ↦ absurd (none_in_empty h.pair h.among)
    ],
    λ h. (lists.each r).1
        (inl (record { triple = t; changes = (Contains-one t t).1 refl; touched = h })),
  );
}
