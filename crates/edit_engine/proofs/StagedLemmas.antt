-- What is staged of a renewal, part by part, is the whole of it.
use Rattle.std.specs.Prelude.{◌≡◌, ℕ, ◌+◌, Bool, List, [], ◌∷◌, ◌++◌, map, Contains}
use Rattle.std.specs.Prelude.{Option, Some, None, length, slice_get, All}
use Rattle.std.specs.List.{IsDistinct}
use Rattle.std.specs.Map.{lookup}
use Rattle.std.specs.Ordering.{eq_by_cmp}
use Rattle.std.proofs.Common.{refl, sym, ap, ◌∙◌, subst}
use Rattle.std.proofs.lemmas.List.Elements.{Contains-append_left, Contains-append_right}
use Rattle.std.proofs.lemmas.Map.Keys.{IsDistinct-tail}
use Rattle.shx_term.specs.TermOrder.{same_term}
use Rattle.shx_term.specs.declared.term.Term.{Term}
use Rattle.shx_term.proofs.MemberLemmas.{Contains-map, Contains-from_map, All_of_each, each_of_All}
use Rattle.comp_core.specs.declared.pair.Pair.{Pair}
use Rattle.comp_core.specs.Pairs.{same_pair, same_pair_equiv}
use Rattle.shape_eval.specs.Report.{at_shape}
use Rattle.read_records.specs.declared.reader.Reader.{Reader}
use Rattle.read_records.specs.declared.reader.Reader.TheVariants.{OfPair, OfTarget}
use Rattle.read_records.specs.Reader.{reader_cmp}
use Rattle.read_records.specs.Records.{Recorded, SameRecords, change_of}
use Rattle.comp_core.specs.declared.row.ResultRow.{ResultRow}
use Rattle.pair_results.specs.PairResults.{Kept as KeptResults, SameRows, Stages as StagesRows, is_at}
use Rattle.pair_results.specs.PairResults.{or_else}
use Rattle.pair_results.specs.PairResults.{rows_after, rows_at}
use Rattle.edit_engine.specs.declared.renewal.Evaluated.{Evaluated}
use Rattle.edit_engine.specs.declared.renewal.Renewal.{Renewal}
use Rattle.edit_engine.specs.Renewal.{pairs_evaluated, shapes_renewed}
use Rattle.edit_engine.specs.declared.kept.Kept.{Kept}
use Rattle.edit_engine.specs.inner.Kept.{IsIdle}
use Rattle.edit_engine.specs.inner.Put.{HaveRows, IsPut, ShapeAt, answer_rows, entries_of, entry_change}
use Rattle.edit_engine.specs.inner.Put.{entry_reader, no_reads, no_rows, pair_entry, place_in, rows_if_at}
use Rattle.edit_engine.specs.inner.Put.{rows_to_come, shape_at, target_entry}
use Rattle.edit_engine.specs.inner.Staged.{IsBesideRenewal, IsStaged, pairs_renewed}
use Rattle.edit_engine.proofs.EntryLemmas.{pair_of_entries, target_of_entries, told_pair}
use Rattle.edit_engine.proofs.PutLemmas.{IsPut-none, IsPut-step, PutsOne-place}
use Rattle.edit_engine.proofs.PutLemmas.{one_number}
use Rattle.edit_engine.proofs.LeftLemmas.{IsLeft, IsLeft-here, map_itself}
use Rattle.edit_engine.proofs.PutLemmas.{apart_parts, one_pair}

-- ---- the same is recorded and kept

pub SameRecords-itself : (state : Recorded) → SameRecords state state
SameRecords-itself state = record { each = λ reader. refl }

pub SameRecords-then : {old mid new : Recorded} → SameRecords old mid → SameRecords mid new
    → SameRecords old new
SameRecords-then a b = record { each = λ reader. b.each reader ∙ a.each reader }

pub SameRows-itself : (kept : KeptResults) → SameRows kept kept
SameRows-itself kept = record { each = λ n node. refl }

pub SameRows-then : {old mid new : KeptResults} → SameRows old mid → SameRows mid new → SameRows old new
SameRows-then a b = record { each = λ n node. b.each n node ∙ a.each n node }

-- ---- a loop that stages the results of pairs

module _ {I : Type 0} (pair : I → Pair) (value : I → List ResultRow) (terms : List Term) where
  pub HaveRows-none : (k : KeptResults) → HaveRows pair value terms [] k k
  HaveRows-none k = record {
    rows = SameRows-itself k;
    places = refl;
    results = IsPut-none (λ item. place_in terms (pair item)) value (rows_to_come k);
  }

  pub HaveRows-more : IsDistinct same_term terms → (done rest all later : List I) (x : I) (count : ℕ)
      → IsDistinct same_pair (map pair all) → IsLeft done rest all count → rest ≡ x ∷ later
      → (k l m : KeptResults) → HaveRows pair value terms done k l
      → (node : Term) → slice_get terms (pair x).node ≡ Some node
      → SameRows l m → length m.shapes ≡ length l.shapes → StagesRows l m (pair x).shape node (value x)
      → HaveRows pair value terms (done ++ x ∷ []) k m
  HaveRows-more distinct done rest all later x count once left is k l m before node at rows places put =
      record {
        rows = SameRows-then before.rows rows;
        places = places ∙ before.places;
        results = IsPut-step (λ item. place_in terms (pair item)) value same_pair same_pair_equiv
            pair done rest all later x count once left is
            (λ y e. one_pair terms distinct node (pair x) (pair y) at e)
            (rows_to_come k) (rows_to_come l) (rows_to_come m) before.results
            (PutsOne-place terms l m (pair x) node (value x) at put);
      }

-- what holds of all holds of the next one
pub next_so : {I : Type 0} (pair : I → Pair) (P : Pair → Type 0) (done rest all later : List I) (x : I)
    (count : ℕ) → All P (map pair all) → IsLeft done rest all count → rest ≡ x ∷ later → P (pair x)
next_so pair P done rest all later x count holds left is =
    each_of_All P (map pair all) holds (pair x)
    (Contains-map pair all x (IsLeft-here done rest all later x count left is))

-- ---- one of two lists

module _ {X : Type 0} (P : X → Type 0) (xs ys : List X) (all : All P (xs ++ ys)) where
  pub All-first : All P xs
  All-first =
      All_of_each P xs (λ x c. each_of_All P (xs ++ ys) all x (Contains-append_left xs ys x c))

  pub All-second : All P ys
  All-second =
      All_of_each P ys (λ x c. each_of_All P (xs ++ ys) all x (Contains-append_right xs ys x c))

pub IsDistinct-second : {X : Type 0} (same : X → X → Bool) (xs ys : List X) → IsDistinct same (xs ++ ys)
    → IsDistinct same ys
IsDistinct-second same [] ys once = once
IsDistinct-second same (x ∷ xs) ys once =
    IsDistinct-second same xs ys (IsDistinct-tail same x (xs ++ ys) once)

-- ---- the whole of it

-- no change of a target is staged for a pair
target_apart : (ps : List Pair) (n : ℕ) → Contains (map OfPair ps) (OfTarget n) → ⊥
target_apart ps n c =
    let at = Contains-from_map OfPair ps (OfTarget n) c in
    cc (at.2)

of_pairs : (ps : List Pair) (p : Pair) → Contains (map OfPair ps) (OfPair p) → Contains ps p
of_pairs ps p c =
    let at = Contains-from_map OfPair ps (OfPair p) c in
    subst (Contains ps) (sym (told_pair p at.0 at.2)) at.1

module _ {I : Type 0} (pair : I → Pair) (xs : List I) where
  pair_of_place : (terms : List Term) (n : ℕ) (node : Term)
      → Contains (map (λ item. place_in terms (pair item)) xs) (shape_at n node)
      → (id : ℕ) × (slice_get terms id ≡ Some node) × Contains (map pair xs) (at_shape n id)
  pair_of_place terms n node c =
      let at = Contains-from_map (λ item. place_in terms (pair item)) xs (shape_at n node) c in
      let p = pair at.0 in
      let shape : n ≡ p.shape = ap (λ (k : ShapeAt). k.0) at.2 in
      let there : Some node ≡ slice_get terms p.node = ap (λ (k : ShapeAt). k.1) at.2 in
      let same : p ≡ at_shape n p.node = λ i. record { shape = sym shape i; node = p.node } in
      (p.node, sym there, subst (Contains (map pair xs)) same (Contains-map pair xs at.0 at.1))

-- before anything is staged
idle_change : (state : Recorded) → state.staged ≡ [] → (reader : Reader) → change_of state reader ≡ None
idle_change state idle reader = ap (λ entries. lookup (eq_by_cmp reader_cmp reader) entries) idle

idle_rows : (kept : KeptResults) → kept.staged ≡ [] → (n : ℕ) (node : Term)
    → rows_after kept n node ≡ rows_at kept n node
idle_rows kept idle n node = ap (λ all. or_else (rows_at kept n node) (lookup (is_at n node) all)) idle

-- a renewal is staged part by part: the pairs that leave, and then its targets and those that were evaluated
module _ (terms : List Term) (distinct : IsDistinct same_term terms) (old new : Kept) (renewal : Renewal)
    (idle : IsIdle old) (once : IsDistinct same_pair (pairs_renewed renewal)) (mid : Recorded)
    (left_same : SameRecords old.records mid)
    (left : IsPut OfPair no_reads renewal.leaving.keys (change_of old.records) (change_of mid))
    (rows : KeptResults) (left_rows : HaveRows (λ p. p) no_rows terms renewal.leaving.keys old.results rows)
    (found_rows : HaveRows (λ found. found.pair) answer_rows terms renewal.evaluated.items rows new.results)
    (found_same : SameRecords mid new.records)
    (found : IsPut entry_reader entry_change (entries_of renewal.targets.items renewal.evaluated.items)
    (change_of mid) (change_of new.records)) where
  abbrev gone : List Pair
  gone = renewal.leaving.keys

  abbrev found_pairs : List Pair
  found_pairs = pairs_evaluated renewal.evaluated.items

  disjoint : (p : Pair) → Contains gone p → Contains found_pairs p → ⊥
  disjoint p c d = apart_parts same_pair same_pair_equiv gone found_pairs once p c d

  of_gone : (p : Pair) → Contains (map (λ p. p) gone) p → Contains gone p
  of_gone p c = subst (λ ps. Contains ps p) (map_itself gone) c

  not_found : (p : Pair) → (Contains found_pairs p → ⊥)
      → change_of new.records (OfPair p) ≡ change_of mid (OfPair p)
  not_found p free =
      found.others (OfPair p)
      (λ c. free (pair_of_entries renewal.targets.items renewal.evaluated.items p c))

  other_pair : (p : Pair) → (Contains (pairs_renewed renewal) p → ⊥)
      → change_of new.records (OfPair p) ≡ None
  other_pair p free =
      not_found p (λ c. free (Contains-append_right gone found_pairs p c))
      ∙ left.others (OfPair p) (λ c. free (Contains-append_left gone found_pairs p (of_pairs gone p c)))
      ∙ idle_change old.records idle.records (OfPair p)

  other_target : (n : ℕ) → (Contains (shapes_renewed renewal.targets.items) n → ⊥)
      → change_of new.records (OfTarget n) ≡ None
  other_target n free =
      found.others (OfTarget n)
      (λ c. free (target_of_entries renewal.targets.items renewal.evaluated.items n c))
      ∙ left.others (OfTarget n) (target_apart gone n)
      ∙ idle_change old.records idle.records (OfTarget n)

  rows_kept : (n : ℕ) (node : Term) → ((id : ℕ) → slice_get terms id ≡ Some node
      → Contains found_pairs (at_shape n id) → ⊥) → rows_after new.results n node ≡ rows_after rows n node
  rows_kept n node free =
      found_rows.results.others (shape_at n node) (λ c.
      let at = pair_of_place (λ found. found.pair) renewal.evaluated.items terms n node c in
      free at.0 at.1 at.2)

  gone_rows : (p : Pair) (node : Term) → Contains gone p → slice_get terms p.node ≡ Some node
      → rows_after new.results p.shape node ≡ []
  gone_rows p node c at =
      let here : rows_after rows p.shape node ≡ [] =
      subst (λ (o : Option Term). rows_if_at rows p.shape o ≡ []) at (left_rows.results.each p c) in
      rows_kept p.shape node (λ id there d.
      disjoint p c (subst (λ i. Contains found_pairs (at_shape p.shape i))
      (one_number terms distinct node id p.node there at) d)) ∙ here

  rows_of_found : (e : Evaluated) (node : Term) → Contains renewal.evaluated.items e
      → slice_get terms e.pair.node ≡ Some node
      → rows_after new.results e.pair.shape node ≡ e.answer.rows.items
  rows_of_found e node c at =
      subst (λ (o : Option Term). rows_if_at new.results e.pair.shape o ≡ e.answer.rows.items) at
      (found_rows.results.each e c)

  other_rows : (n : ℕ) (node : Term) → IsBesideRenewal terms renewal n node
      → rows_after new.results n node ≡ rows_at old.results n node
  other_rows n node beside =
      rows_kept n node (λ id at c. beside id at (Contains-append_right gone found_pairs (at_shape n id) c))
      ∙ left_rows.results.others (shape_at n node) (λ c.
      let at = pair_of_place (λ p. p) gone terms n node c in
      beside at.0 at.1 (Contains-append_left gone found_pairs (at_shape n at.0)
      (of_gone (at_shape n at.0) at.2)))
      ∙ idle_rows old.results idle.results n node

  pub IsStaged-parts : new.coming + length renewal.leaving.keys ≡ old.pairs + length renewal.entering.items
      → IsStaged terms old new renewal
  IsStaged-parts count =
      let targets = map target_entry renewal.targets.items in
      let pairs = map pair_entry renewal.evaluated.items in
      record {
        records = SameRecords-then left_same found_same;
        rows = SameRows-then left_rows.rows found_rows.rows;
        places = found_rows.places ∙ left_rows.places;
        targets = λ t c.
            found.each (target_entry t) (Contains-append_left targets pairs (target_entry t)
            (Contains-map target_entry renewal.targets.items t c));
        other_targets = other_target;
        leaving = λ p c. not_found p (disjoint p c) ∙ left.each p c;
        leaving_rows = gone_rows;
        evaluated = λ e c.
            found.each (pair_entry e) (Contains-append_right targets pairs (pair_entry e)
            (Contains-map pair_entry renewal.evaluated.items e c));
        evaluated_rows = rows_of_found;
        other_pairs = other_pair;
        other_rows = other_rows;
        count = count;
      }
