-- What is gathered of a renewal: for whom it is, and that it may be staged one by one, or recorded at once.
use Rattle.std.specs.Prelude.{◌≡◌, ℕ, Bool, true, false, ◌&&◌, ◌==◌, nat_eq, List, [], ◌∷◌, ◌++◌, map}
use Rattle.std.specs.Prelude.{Contains, Option, Some, None, IsSome, cond, option_map}
use Rattle.std.specs.Cmp.{eq_by_cmp_equiv}
use Rattle.std.specs.List.{IsDistinct}
use Rattle.std.specs.Map.{keys_of, lookup}
use Rattle.std.specs.Ordering.{eq_by_cmp}
use Rattle.std.proofs.Common.{refl, sym, ap, ◌∙◌, subst, inl, inr, append_assoc}
use Rattle.std.proofs.lemmas.List.{map-append}
use Rattle.std.proofs.lemmas.List.Elements.{Contains-append_cases}
use Rattle.std.proofs.lemmas.Map.Views.{Contains-keys_from_lookup, lookup-from_Contains, tells_apart}
use Rattle.shx_term.proofs.MemberLemmas.{Contains-map, Contains-from_map}
use Rattle.graph_view.specs.declared.key.Key.{Key}
use Rattle.graph_view.proofs.PatchedLemmas.{IsDistinct-append}
use Rattle.comp_core.specs.declared.pair.Pair.{Pair}
use Rattle.comp_core.specs.Pairs.{same_pair}
use Rattle.read_records.proofs.ReadingLemmas.{reader_cmp_exact}
use Rattle.read_records.specs.declared.reader.Reader.{Reader}
use Rattle.read_records.specs.declared.reader.Reader.TheVariants.{OfPair, OfTarget}
use Rattle.read_records.specs.Reader.{reader_cmp, reader_node, reader_shape, same_reader}
use Rattle.read_records.specs.Records.{Commits, Recorded, after_change, change_of, reads_of}
use Rattle.read_records.specs.inner.ReaderLaws.{reader_cmp_ties, reader_cmp_total, same_reader_equiv}
use Rattle.read_records.specs.inner.ReaderLaws.{same_reader_exact}
use Rattle.edit_engine.specs.declared.renewal.Evaluated.{Evaluated}
use Rattle.edit_engine.specs.declared.renewal.TargetReads.{TargetReads}
use Rattle.edit_engine.specs.Renewal.{pairs_evaluated, shapes_renewed}
use Rattle.edit_engine.specs.inner.Put.{Entry, IsPut, entries_of, entry_change, entry_reader, pair_entry}
use Rattle.edit_engine.specs.inner.Put.{target_entry}
use Rattle.edit_engine.proofs.RenewedPairLemmas.{IsDistinct-mapped}

-- one entry more is gathered
pub gathered_more : {I : Type 0} (entry : I → Entry) (first mid new : List Entry) (done : List I) (x : I)
    → mid ≡ first ++ map entry done → new ≡ mid ++ entry x ∷ [] → new ≡ first ++ map entry (done ++ x ∷ [])
gathered_more entry first mid new done x before pushed =
    pushed
    ∙ ap (λ es. es ++ entry x ∷ []) before
    ∙ append_assoc first (map entry done) (entry x ∷ [])
    ∙ ap (λ es. first ++ es) (sym (map-append entry done (x ∷ [])))

-- ---- for whom they are

pub told_pair : (p q : Pair) → ◌≡◌ {A = Reader} (OfPair p) (OfPair q) → p ≡ q
told_pair p q e =
    let shapes : p.shape ≡ q.shape = ap reader_shape e in
    let nodes : p.node ≡ q.node = ap reader_node e in
    λ i. record { shape = shapes i; node = nodes i }

module _ (targets : List TargetReads) (evaluated : List Evaluated) where
  abbrev all : List Entry
  all = entries_of targets evaluated

  -- who is among them is a target or a pair
  pub target_of_entries : (n : ℕ) → Contains (map entry_reader all) (OfTarget n)
      → Contains (shapes_renewed targets) n
  target_of_entries n c =
      let at = Contains-from_map entry_reader all (OfTarget n) c in
      elim (Contains-append_cases (map target_entry targets) (map pair_entry evaluated) at.0 at.1) [
        | inl d ↦
            let of = Contains-from_map target_entry targets at.0 d in
            let same : n ≡ of.0.shape = ap reader_shape (at.2 ∙ ap entry_reader of.2) in
            subst (Contains (shapes_renewed targets)) (sym same)
            (Contains-map (λ (t : TargetReads). t.shape) targets of.0 of.1)
        | inr d ↦
            let of = Contains-from_map pair_entry evaluated at.0 d in
            let same : OfTarget n ≡ OfPair of.0.pair = at.2 ∙ ap entry_reader of.2 in
            absurd (cc same)
      ]

  pub pair_of_entries : (p : Pair) → Contains (map entry_reader all) (OfPair p)
      → Contains (pairs_evaluated evaluated) p
  pair_of_entries p c =
      let at = Contains-from_map entry_reader all (OfPair p) c in
      elim (Contains-append_cases (map target_entry targets) (map pair_entry evaluated) at.0 at.1) [
        | inl d ↦
            let of = Contains-from_map target_entry targets at.0 d in
            let same : OfPair p ≡ OfTarget of.0.shape = at.2 ∙ ap entry_reader of.2 in
            absurd (cc same)
        | inr d ↦
            let of = Contains-from_map pair_entry evaluated at.0 d in
            let same : p ≡ of.0.pair = told_pair p of.0.pair (at.2 ∙ ap entry_reader of.2) in
            subst (Contains (pairs_evaluated evaluated)) (sym same)
            (Contains-map (λ (e : Evaluated). e.pair) evaluated of.0 of.1)
      ]

-- ---- each is there once

readers_of_targets : (targets : List TargetReads)
    → map OfTarget (shapes_renewed targets) ≡ map entry_reader (map target_entry targets)
readers_of_targets [] = refl
readers_of_targets (t ∷ ts) = ap (λ rs. OfTarget t.shape ∷ rs) (readers_of_targets ts)

readers_of_pairs : (evaluated : List Evaluated)
    → map OfPair (pairs_evaluated evaluated) ≡ map entry_reader (map pair_entry evaluated)
readers_of_pairs [] = refl
readers_of_pairs (e ∷ es) = ap (λ rs. OfPair e.pair ∷ rs) (readers_of_pairs es)

pub readers_once : (targets : List TargetReads) (evaluated : List Evaluated)
    → IsDistinct nat_eq (shapes_renewed targets) → IsDistinct same_pair (pairs_evaluated evaluated)
    → IsDistinct same_reader (map entry_reader (entries_of targets evaluated))
readers_once targets evaluated once once' =
    let first = map OfTarget (shapes_renewed targets) in
    let second = map OfPair (pairs_evaluated evaluated) in
    let whole : first ++ second ≡ map entry_reader (entries_of targets evaluated) =
    (λ i. readers_of_targets targets i ++ readers_of_pairs evaluated i)
    ∙ sym (map-append entry_reader (map target_entry targets) (map pair_entry evaluated)) in
    subst (IsDistinct same_reader) whole
    (IsDistinct-append same_reader same_reader_equiv same_reader_exact first second
    (IsDistinct-mapped nat_eq same_reader OfTarget
    (λ a b apart. ap (λ t. (0 == 0) && (t && (0 == 0))) apart) (shapes_renewed targets) once)
    (IsDistinct-mapped same_pair same_reader OfPair
    (λ p q apart. ap (λ t. (1 == 1) && t) apart) (pairs_evaluated evaluated) once')
    (λ r c d.
    let of = Contains-from_map OfTarget (shapes_renewed targets) r c in
    let at = Contains-from_map OfPair (pairs_evaluated evaluated) r d in
    let same : OfTarget of.0 ≡ OfPair at.0 = sym of.2 ∙ at.2 in
    cc same))

-- ---- recorded at once, they are as if they had been staged and made

abbrev pub staged_entry : Entry → Reader × Option (List Key)
staged_entry e = (e.0, Some e.1)

-- nothing is recorded, and these are staged
abbrev pub only_staged : List Entry → Recorded
only_staged all = record { kept = []; staged = map staged_entry all }

staged_readers : (all : List Entry) → keys_of (map staged_entry all) ≡ map entry_reader all
staged_readers [] = refl
staged_readers (e ∷ es) = ap (λ rs. e.0 ∷ rs) (staged_readers es)

distinct_by_order : (rs : List Reader) → IsDistinct same_reader rs → IsDistinct (eq_by_cmp reader_cmp) rs
distinct_by_order rs once =
    subst (λ (same : Reader → Reader → Bool). IsDistinct same rs) (λ i a b. reader_cmp_ties a b i) once

none_found : {X : Type 0} (o : Option X) → (IsSome o → ⊥) → o ≡ None
none_found None none = refl
none_found (Some x) none = absurd (none refl)

pub IsPut-only_staged : (all : List Entry) → IsDistinct same_reader (map entry_reader all)
    → IsPut entry_reader entry_change all (change_of (only_staged [])) (change_of (only_staged all))
IsPut-only_staged all once = record {
  each = λ e c.
      lookup-from_Contains (eq_by_cmp_equiv reader_cmp_total) e.0 (Some e.1) (map staged_entry all)
      (subst (IsDistinct (eq_by_cmp reader_cmp)) (sym (staged_readers all)) (distinct_by_order _ once))
      (Contains-map staged_entry all e c);
  others = λ r free.
      none_found (lookup (eq_by_cmp reader_cmp r) (map staged_entry all)) (λ there.
      free (subst (λ rs. Contains rs r) (staged_readers all)
      (Contains-keys_from_lookup (tells_apart reader_cmp_exact) r (map staged_entry all) there)));
}

lookup_staged : (test : Reader → Bool) (all : List Entry)
    → lookup test (map staged_entry all) ≡ option_map Some (lookup test all)
lookup_staged test [] = refl
lookup_staged test (e ∷ es) =
    elim (test e.0) as (λ b. cond b (Some (Some e.1)) (lookup test (map staged_entry es))
    ≡ option_map Some (cond b (Some e.1) (lookup test es))) [
      | true ↦ refl
      | false ↦ lookup_staged test es
    ]

made_of_staged : (o : Option (List Key)) → after_change (option_map Some o) None ≡ o
made_of_staged None = refl
made_of_staged (Some keys) = refl

pub Commits-only_staged : (all : List Entry) (new : Recorded)
    → ((reader : Reader) → reads_of new reader ≡ lookup (eq_by_cmp reader_cmp reader) all)
    → Commits (only_staged all) new
Commits-only_staged all new are = record {
  each = λ reader.
      are reader
      ∙ sym (ap (λ o. after_change o None) (lookup_staged (eq_by_cmp reader_cmp reader) all)
      ∙ made_of_staged (lookup (eq_by_cmp reader_cmp reader) all));
}
