-- What is remembered of pairs, by what is kept and staged for their readers.
use Rattle.std.specs.Prelude.{◌≡◌, Bool, true, false, List, [], ◌∷◌, ◌++◌, Option, Some, None, is_some}
use Rattle.std.specs.Prelude.{if◌then◌else◌, map, flat_map, ◌==◌, Contains, ◌↔◌}
use Rattle.std.specs.BTreeMap as tree
use Rattle.std.specs.BTreeMap.{BTreeMap}
use Rattle.std.specs.Cmp.{IsTotalOrder, both_tied, nat_cmp_total, on_total, then_total, unsigned_ties}
use Rattle.std.specs.FinMap.{IsAntisymmetric, find, get, get-from_entries, same_map}
use Rattle.std.specs.List.{AllByRecursion, IsDistinct}
use Rattle.std.specs.Map.{keys_of, lookup}
use Rattle.std.specs.Option.{option_map}
use Rattle.std.specs.Ordering.{eq_by_cmp, is_eq, nat_cmp}
use Rattle.std.proofs.Common.{refl, sym, ap, ◌∙◌, subst, inl, inr, true≢false}
use Rattle.std.proofs.lemmas.Bool.{cond-false, cond-true}
use Rattle.std.proofs.lemmas.Map.Views.{tells_apart}
use Rattle.std.proofs.lemmas.Simd.{map-map}
use Rattle.shx_term.specs.declared.triple.Triple.{Triple}
use Rattle.graph_view.specs.declared.key.Key.{Key}
use Rattle.comp_core.specs.declared.memo.PairAnswer.{PairAnswer}
use Rattle.comp_core.specs.declared.pair.Pair.{Pair}
use Rattle.comp_core.specs.declared.row.ResultRow.{ResultRow}
use Rattle.comp_core.specs.Memo.{remembered_of}
use Rattle.comp_core.specs.Pairs.{same_pair, same_pair_exact}
use Rattle.read_records.proofs.GatheredLemmas.{AreFilled-of_all, as_note, kept_of_all}
use Rattle.read_records.proofs.SeenLemmas.{MakesStaged-seen, SameNotes-seen, SameStaged-seen, StagesFor-seen}
use Rattle.read_records.proofs.SeenLemmas.{change_seen, coming_seen, kept_seen}
use Rattle.read_records.proofs.StoreLemmas.{is_at}
use Rattle.read_records.specs.declared.noted.Noted.{Noted}
use Rattle.read_records.specs.declared.reader.Reader.{Reader}
use Rattle.read_records.specs.declared.reader.Reader.TheVariants.{OfPair, OfTarget}
use Rattle.read_records.specs.Reader.{reader_cmp, same_reader}
use Rattle.read_records.specs.Recall.{IsReached, KeepsRecalled, KeepsSame, MasksAtMost, MasksReached}
use Rattle.read_records.specs.Recall.{Answer, RecallState, StagesAnswer, StagesSame, all_kept, entry_at}
use Rattle.read_records.specs.Recall.{entry_of, kept_of, pair_cmp, recalled, staged_of}
use Rattle.read_records.specs.Store.{MakesStaged, SameNotes, SameStaged, StagesFor, change_for}
use Rattle.read_records.specs.Store.{coming_for, if_noted, note_at}
use Rattle.read_records.specs.inner.Masks.{AreStaged, MasksAmong}
use Rattle.read_records.specs.inner.Notes.{AreFilled}
use Rattle.read_records.specs.inner.ReaderLaws.{reader_cmp_ties}
use Rattle.read_records.specs.inner.Remembered.{NotedRows, as_recalled, as_remembered}

-- ---- what is kept and staged

pub KeepsSame-noted : {old new : NotedRows} → SameNotes old new
    → KeepsSame (as_recalled old) (as_recalled new)
KeepsSame-noted same = record { each = λ p. (SameNotes-seen as_remembered same).each (OfPair p) }

pub StagesSame-noted : {old new : NotedRows} → SameStaged old new
    → StagesSame (as_recalled old) (as_recalled new)
StagesSame-noted same = record { each = λ p. (SameStaged-seen as_remembered same).each (OfPair p) }

pub KeepsRecalled-made : {old new : NotedRows} → MakesStaged old new
    → KeepsRecalled (as_recalled old) (as_recalled new)
KeepsRecalled-made makes = record { each = λ p. (MakesStaged-seen as_remembered makes).each (OfPair p) }

pub StagesAnswer-noted : {old new : NotedRows} {p : Pair} {noted : Noted (List ResultRow)} {answer : Answer}
    → as_remembered noted ≡ answer → StagesFor old new (OfPair p) (Some noted)
    → StagesAnswer (as_recalled old) (as_recalled new) p answer
StagesAnswer-noted {old} {new} {p} {noted} is stages = record {
  each = λ q.
      (StagesFor-seen as_remembered stages).each (OfPair q)
      ∙ ap (λ b. staged q b (as_remembered noted)) (sym (reader_cmp_ties (OfPair p) (OfPair q)))
      ∙ ap (staged q (same_pair p q)) is;
}
  where
    staged : Pair → Bool → Answer → Option (Option Answer)
    staged q b answer = if b then Some (Some answer) else staged_of (as_recalled old) q

-- ---- masks

module _ (old new : NotedRows) (changed : List Triple) (readers : List Reader)
    (are : (p : Pair) → Contains readers (OfPair p) ↔ IsReached (as_recalled old) changed p)
    (only : MasksAmong old new readers)
  where
    pub MasksAtMost-among : MasksAtMost (as_recalled old) (as_recalled new) changed
    MasksAtMost-among = record {
      each = λ p. elim (only.each (OfPair p)) [
        | inl same ↦ inl (
            change_seen as_remembered new (OfPair p)
            ∙ ap (option_map (option_map as_remembered)) same
            ∙ sym (change_seen as_remembered old (OfPair p)))
        | inr m ↦ inr (record {
          reached = (are p).0 m.among;
          before = change_seen as_remembered old (OfPair p)
              ∙ ap (option_map (option_map as_remembered)) m.before;
          now = change_seen as_remembered new (OfPair p)
              ∙ ap (option_map (option_map as_remembered)) m.now;
        })
      ];
    }

    -- nothing is staged where nothing is seen
    bare : (p : Pair) → staged_of (as_recalled old) p ≡ None → is_some (change_for old (OfPair p)) ≡ false
    bare p none = by (change_for old (OfPair p)) (sym (change_seen as_remembered old (OfPair p)) ∙ none)
      where
        by : (change : Option (Option (Noted (List ResultRow))))
            → option_map (option_map as_remembered) change ≡ None → is_some change ≡ false
        by None e = refl
        by (Some c) e = cc

    pub MasksReached-among : AreStaged new readers → MasksReached (as_recalled old) (as_recalled new) changed
    MasksReached-among staged = record {
      each = λ p h none. elim (only.each (OfPair p)) [
        | inl same ↦ absurd (true≢false
            (sym (staged.each (OfPair p) ((are p).1 h)) ∙ ap is_some same ∙ bare p none))
        | inr m ↦ change_seen as_remembered new (OfPair p) ∙ ap (option_map (option_map as_remembered)) m.now
      ];
    }

-- ---- answers that are given

-- the same, by readers
abbrev by_reader : {X : Type 0} → List (Pair × X) → List (Reader × X)
by_reader all = map (λ e. (OfPair e.0, e.1)) all

distinct_readers : {X : Type 0} (all : List (Pair × X)) → IsDistinct same_pair (keys_of all)
    → IsDistinct same_reader (keys_of (by_reader all))
unfolding IsDistinct
distinct_readers [] once = tt
distinct_readers (e ∷ rest) once = (apart e.0 rest once.0, distinct_readers rest once.1)
  where
    apart : {X : Type 0} (p : Pair) (all : List (Pair × X))
        → AllByRecursion (λ q. same_pair p q ≡ false) (keys_of all)
        → AllByRecursion (λ r. same_reader (OfPair p) r ≡ false) (keys_of (by_reader all))
    apart p [] differ = tt
    apart p (e ∷ rest) differ = (differ.0, apart p rest differ.1)

lookup-by_reader : {X : Type 0} (p : Pair) (all : List (Pair × X))
    → lookup (is_at (OfPair p)) (by_reader all) ≡ lookup (same_pair p) all
lookup-by_reader p [] = refl
lookup-by_reader p (e ∷ rest) =
    λ i. if sym (reader_cmp_ties (OfPair p) (OfPair e.0)) i then Some e.1 else lookup-by_reader p rest i

-- as they are noted
abbrev pub answer_noted : PairAnswer (List Key) → Noted (List ResultRow)
answer_noted answer = record { value = answer.rows.items; reads = answer.reads }

abbrev pub pair_note : Pair × PairAnswer (List Key) → Reader × Option (Noted (List ResultRow))
pair_note e = (OfPair e.0, Some (answer_noted e.1))

noted_by_reader : (es : List (Pair × PairAnswer (List Key)))
    → map (as_note answer_noted) (by_reader es) ≡ map pair_note es
noted_by_reader es =
    map-map (as_note answer_noted) (λ (e : Pair × PairAnswer (List Key)). (OfPair e.0, e.1)) es

-- something is noted for each of them
pub AreFilled-given : (all : List (Pair × PairAnswer (List Key)))
    (kept : BTreeMap Reader (Option (Noted (List ResultRow))))
    → tree.IsFromIterResult reader_cmp (map pair_note all) kept → IsDistinct same_pair (keys_of all)
    → AreFilled kept.entries
AreFilled-given all kept made once =
    AreFilled-of_all answer_noted (by_reader all) kept
    (subst (λ notes. tree.IsFromIterResult reader_cmp notes kept) (sym (noted_by_reader all)) made)
    (distinct_readers all once)

-- exactly these are kept
pub kept_given : (all : List (Pair × PairAnswer (List Key)))
    (kept : BTreeMap Reader (Option (Noted (List ResultRow))))
    → tree.IsFromIterResult reader_cmp (map pair_note all) kept → IsDistinct same_pair (keys_of all)
    → (p : Pair)
    → kept_of (as_recalled (record { kept = kept.entries; staged = [] })) p
    ≡ option_map remembered_of (lookup (same_pair p) all)
kept_given all kept made once p =
    kept_seen as_remembered (record { kept = kept.entries; staged = [] }) (OfPair p)
    ∙ ap (option_map as_remembered)
    (kept_of_all answer_noted (by_reader all) kept
    (subst (λ notes. tree.IsFromIterResult reader_cmp notes kept) (sym (noted_by_reader all)) made)
    (distinct_readers all once) (OfPair p)
    ∙ ap (option_map answer_noted) (lookup-by_reader p all))
    ∙ back (lookup (same_pair p) all)
  where
    back : (found : Option (PairAnswer (List Key)))
        → option_map as_remembered (option_map answer_noted found) ≡ option_map remembered_of found
    back None = refl
    back (Some answer) = refl

-- ---- what is remembered

-- what is found
abbrev pub found : List ResultRow → List Key → Option Answer
found rows reads = Some (record { rows = rows; reads = reads })

pub found_in : (state : NotedRows) (p : Pair) (noted : Noted (List ResultRow)) (rows : List ResultRow)
    → rows ≡ noted.value → Some noted ≡ coming_for state (OfPair p)
    → found rows noted.reads ≡ recalled (as_recalled state) p
found_in state p noted rows is at =
    ap (λ rs. found rs noted.reads) is
    ∙ ap (option_map as_remembered) at
    ∙ sym (coming_seen as_remembered state (OfPair p))

-- ---- what is kept, as a finite map

pub pair_cmp_total : IsTotalOrder pair_cmp
pair_cmp_total =
    then_total (on_total (λ (p : Pair). p.shape) nat_cmp_total)
    (on_total (λ (p : Pair). p.node) nat_cmp_total)

-- pairs that compare as equal are one
pub pair_cmp_exact : IsAntisymmetric pair_cmp
pair_cmp_exact a b e =
    same_pair_exact a b
    (both_tied (a.shape == b.shape) (a.node == b.node) (nat_cmp a.shape b.shape) (nat_cmp a.node b.node)
    (unsigned_ties a.shape b.shape) (unsigned_ties a.node b.node) ∙ ap is_eq e)

module _ (state : RecallState) (p : Pair) where
  -- what is kept of it, if it has an entry
  abbrev kept_if : Bool → Option Answer
  kept_if b = if b then kept_of state p else None

  abbrev all_entries : List (Reader × Option Answer) → List (Pair × Answer)
  all_entries notes = flat_map (λ e. entry_at state e.0) notes

  -- one entry more, of a pair
  module _ (q : Pair) (rest : List (Pair × Answer)) where
    found_here : (kept : Option Answer) → eq_by_cmp pair_cmp p q ≡ true
        → (kept ≡ None → find pair_cmp p rest ≡ None) → find pair_cmp p (entry_of q kept ++ rest) ≡ kept
    found_here None tied none = none refl
    found_here (Some answer) tied none = cond-true _ (Some answer) (find pair_cmp p rest) tied

    found_later : (kept : Option Answer) → eq_by_cmp pair_cmp p q ≡ false
        → find pair_cmp p (entry_of q kept ++ rest) ≡ find pair_cmp p rest
    found_later None apart = refl
    found_later (Some answer) apart = cond-false _ (Some answer) (find pair_cmp p rest) apart

  none_if : (b : Bool) → kept_of state p ≡ None → kept_if b ≡ None
  none_if true none = none
  none_if false none = refl

  found_kept : (notes : List (Reader × Option Answer))
      → find pair_cmp p (all_entries notes) ≡ kept_if (is_some (note_at notes (OfPair p)))
  found_kept [] = refl
  found_kept (e ∷ rest) = one_more e.0 e.1 (found_kept rest)
    where
      one_more : (reader : Reader) (held : Option Answer)
          → find pair_cmp p (all_entries rest) ≡ kept_if (is_some (note_at rest (OfPair p)))
          → find pair_cmp p (entry_at state reader ++ all_entries rest)
          ≡ kept_if (is_some (note_at ((reader, held) ∷ rest) (OfPair p)))
      one_more (OfTarget n) held before = before
      one_more (OfPair q) held before = by (eq_by_cmp pair_cmp p q) refl
        where
          by : (b : Bool) → eq_by_cmp pair_cmp p q ≡ b
              → find pair_cmp p (entry_of q (kept_of state q) ++ all_entries rest)
              ≡ kept_if (is_some (if b then Some held else note_at rest (OfPair p)))
          by true tied =
              let same : kept_of state q ≡ kept_of state p =
              ap (kept_of state) (sym (tells_apart pair_cmp_exact p q tied)) in
              found_here q (all_entries rest) (kept_of state q) tied
              (λ none. before ∙ none_if (is_some (note_at rest (OfPair p))) (sym same ∙ none))
              ∙ same
          by false apart = found_later q (all_entries rest) (kept_of state q) apart ∙ before

-- the map has what is kept of each pair
pub all_kept_gives : (state : RecallState) (p : Pair) → get (all_kept state) p ≡ kept_of state p
all_kept_gives state p =
    get-from_entries pair_cmp_total (flat_map (λ e. entry_at state e.0) state.kept) p
    ∙ found_kept state p state.kept
    ∙ whole (note_at state.kept (OfPair p))
  where
    whole : (note : Option (Option Answer)) → (if is_some note then if_noted note else None) ≡ if_noted note
    whole None = refl
    whole (Some kept) = refl

-- where the same is kept it is one map
pub all_kept_same : (old new : RecallState) → KeepsSame old new → all_kept old ≡ all_kept new
all_kept_same old new same =
    same_map pair_cmp_total pair_cmp_exact (all_kept old) (all_kept new)
    (λ p. all_kept_gives old p ∙ sym (same.each p) ∙ sym (all_kept_gives new p))
