-- Results by node come into term order where only the nodes that have some are sorted.
use Rattle.std.specs.Prelude.{◌≡◌, ℕ, ◌+◌, ◌<◌, Bool, true, false, nat_eq, List, [], ◌∷◌, ◌++◌, map}
use Rattle.std.specs.Prelude.{flat_map, filter, length, slice_get, if◌then◌else◌, All, Contains}
use Rattle.std.specs.Prelude.{IsPermutation}
use Rattle.std.specs.Cmp.{both_ways, nat_eq_equiv}
use Rattle.std.specs.List.{IsDistinct, dedup, dedup_from, list_any}
use Rattle.std.specs.List.Sorted.{IsSorted, IsSortedByKey, IsStrictlySortedBy}
use Rattle.std.specs.Ordering.{nat_cmp}
use Rattle.std.specs.declared.cmp.Ordering.{Ordering}
use Rattle.std.proofs.Common.{refl, sym, ap, ◌∙◌, subst, arith}
use Rattle.std.proofs.lemmas.Bool.{eqb-true}
use Rattle.std.proofs.lemmas.List.{get_or-map, length-map}
use Rattle.std.proofs.lemmas.List.Folds.{flat_map-map}
use Rattle.std.proofs.lemmas.List.Kept.{IsStrictlySortedBy-filter}
use Rattle.std.proofs.lemmas.List.Sorted.{All-permutation, IsPermutation-map}
use Rattle.std.proofs.lemmas.Simd.{map-map}
use Rattle.std.proofs.lemmas.Map.Keys.{IsDistinct-head, IsDistinct-IsPermutation, IsDistinct-tail}
use Rattle.std.proofs.lemmas.Map.Made.{length-from_same_keys}
use Rattle.shx_term.specs.declared.term.Term.{Term}
use Rattle.shx_term.specs.IdOrder.{id_cmp, in_term_order}
use Rattle.shx_term.specs.InOrder.{Lists}
use Rattle.shx_term.specs.Members.{SameMembers}
use Rattle.shx_term.proofs.IdOrderLemmas.{id_order, in_term_order_is, in_term_order_lists}
use Rattle.shx_term.proofs.MemberLemmas.{All_of_each, Contains-from_flat_map, Contains-one, Contains-test}
use Rattle.shx_term.proofs.MemberLemmas.{each_of_All, flat_map_agree, none_in_empty}
use Rattle.shx_term.proofs.SetLemmas.{SameMembers-filter, SameMembers-map}
use Rattle.shx_term.proofs.SortLemmas.{dedup_in_order}
use Rattle.graph_view.specs.Graph.{Graph}
use Rattle.comp_core.specs.declared.row.ResultRow.{ResultRow}
use Rattle.shape_eval.specs.declared.shape.PlanShape.{PlanShape}
use Rattle.shape_eval.specs.Report.{at_shape}
use Rattle.shape_eval.specs.Results.{results}
use Rattle.shape_eval.specs.Targets.{nodes_of_target, target_nodes, targets_of}
use Rattle.shape_eval.proofs.AscendingLemmas.{IsDistinct-ascending, IsDistinct-in_term_order}
use Rattle.shacl_run.specs.declared.node_rows.NodeRows.{NodeRows}
use Rattle.shacl_run.specs.inner.NodeRows.{AreRowsAt, entry_if_any, entry_of}

-- nothing is repeated in what is distinct
dedup_from-distinct : (x : ℕ) (xs : List ℕ) → IsDistinct nat_eq (x ∷ xs) → dedup_from nat_eq x xs ≡ x ∷ xs
dedup_from-distinct x [] distinct = refl
dedup_from-distinct x (y ∷ ys) distinct =
    let apart = (IsDistinct-head nat_eq x (y ∷ ys) distinct).0 in
    rw (nat_eq_equiv.symm y x ∙ apart)
    (ap (λ rest. x ∷ rest) (dedup_from-distinct y ys (IsDistinct-tail nat_eq x (y ∷ ys) distinct)))

dedup-distinct : (xs : List ℕ) → IsDistinct nat_eq xs → dedup nat_eq xs ≡ xs
dedup-distinct [] distinct = refl
dedup-distinct (x ∷ xs) distinct = dedup_from-distinct x xs distinct

-- keys of a list that is sorted by them are sorted
IsSorted-keys : {X : Type 0} (cmp : ℕ → ℕ → Ordering) (key : X → ℕ) (xs : List X) → IsSortedByKey key cmp xs
    → IsSorted cmp (map key xs)
IsSorted-keys cmp key [] ordered = λ k d low inside. absurd (omega (arith, inside))
IsSorted-keys cmp key (x ∷ xs) ordered = λ k d low inside.
    let long : length (map key (x ∷ xs)) ≡ length (x ∷ xs) = length-map (x ∷ xs) key in
    let next : k + 1 < length (x ∷ xs) = omega arith in
    let here : k < length (x ∷ xs) = omega arith in
    rw (get_or-map key (x ∷ xs) (k + 1) x d next, get_or-map key (x ∷ xs) k x d here) (ordered k x low next)

abbrev is_any : List ResultRow → Bool
is_any [] = false
is_any (row ∷ rows) = true

-- ---- of nodes in turn, each of which has the results that f says

module _ (f : ℕ → List ResultRow) where
  abbrev has_any : ℕ → Bool
  has_any node = is_any (f node)

  abbrev entries_at : List ℕ → List (ℕ × List ResultRow)
  entries_at nodes = flat_map (λ node. entry_if_any node (f node)) nodes

  -- it is the nodes that have some of which entries are kept
  nodes_kept : (nodes : List ℕ) → map (λ e. e.0) (entries_at nodes) ≡ filter has_any nodes
  nodes_kept [] = refl
  nodes_kept (n ∷ ns) =
      elim (f n) as
      (λ rows. map (λ e. e.0) (entry_if_any n rows ++ entries_at ns)
      ≡ (if is_any rows then n ∷ filter has_any ns else filter has_any ns)) [
        | [] ↦ nodes_kept ns
        | row ∷ rows ↦ ap (λ ms. n ∷ ms) (nodes_kept ns)
      ]

  -- the others add nothing
  without_none : (nodes : List ℕ) → flat_map f (filter has_any nodes) ≡ flat_map f nodes
  without_none [] = refl
  without_none (n ∷ ns) =
      elim (f n) as
      (λ rows. f n ≡ rows → flat_map f (if is_any rows then n ∷ filter has_any ns else filter has_any ns)
      ≡ rows ++ flat_map f ns) [
        | [] ↦ λ _. without_none ns
        | row ∷ rows ↦ λ e. ap (λ first. first ++ flat_map f (filter has_any ns)) e
            ∙ ap (λ rest. (row ∷ rows) ++ rest) (without_none ns)
      ] refl

  one_right : (n : ℕ) (rows : List ResultRow) (e : ℕ × List ResultRow) → f n ≡ rows
      → Contains (entry_if_any n rows) e → e.1 ≡ f e.0
  one_right n [] e is c = absurd (none_in_empty e c)
  one_right n (row ∷ rows) e is c =
      let same = (Contains-one (n, row ∷ rows) e).0 c in
      ap (λ (d : ℕ × List ResultRow). d.1) same
      ∙ sym is
      ∙ ap (λ (d : ℕ × List ResultRow). f d.0) (sym same)

  -- each entry has the results at its node
  entries_right : (nodes : List ℕ) → All (λ e. e.1 ≡ f e.0) (entries_at nodes)
  entries_right nodes =
      All_of_each (λ e. e.1 ≡ f e.0) (entries_at nodes)
      (λ e c.
      let at = Contains-from_flat_map (λ node. entry_if_any node (f node)) nodes e c in
      one_right at.0 (f at.0) e refl at.2)

  rows_of_nodes : (es : List (ℕ × List ResultRow)) → All (λ e. e.1 ≡ f e.0) es
      → flat_map (λ e. e.1) es ≡ flat_map f (map (λ e. e.0) es)
  rows_of_nodes es right =
      flat_map_agree (λ e. e.1) (λ e. f e.0) es (λ e c. each_of_All (λ d. d.1 ≡ f d.0) es right e c)
      ∙ sym (flat_map-map f (λ e. e.0) es)

  -- ---- sorted by the terms of the nodes

  module _ (terms : List Term) (nodes : List ℕ) (ascend : IsStrictlySortedBy nat_cmp nodes)
      (found sorted : List NodeRows) (are : AreRowsAt f nodes found) (permuted : IsPermutation found sorted)
      (ordered : IsSortedByKey (λ at. at.node) (id_cmp terms) sorted)
    where
      abbrev es : List (ℕ × List ResultRow)
      es = map entry_of sorted

      abbrev keys : List ℕ
      keys = map (λ e. e.0) es

      moved : IsPermutation (entries_at nodes) es
      moved = subst (λ l. IsPermutation l es) are (IsPermutation-map entry_of found sorted permuted)

      keys_moved : IsPermutation (filter has_any nodes) keys
      keys_moved =
          subst (λ l. IsPermutation l keys) (nodes_kept nodes)
          (IsPermutation-map (λ e. e.0) (entries_at nodes) es moved)

      keys_distinct : IsDistinct nat_eq keys
      keys_distinct =
          let kept = filter has_any nodes in
          IsDistinct-IsPermutation nat_eq nat_eq_equiv.symm kept keys keys_moved
          (IsDistinct-ascending kept (IsStrictlySortedBy-filter nat_cmp has_any nodes ascend))

      keys_ordered : IsSorted (id_cmp terms) keys
      keys_ordered =
          subst (IsSorted (id_cmp terms)) (sym (map-map (λ e. e.0) entry_of sorted))
          (IsSorted-keys (id_cmp terms) (λ (at : NodeRows). at.node) sorted ordered)

      keys_are : keys ≡ in_term_order terms (filter has_any nodes)
      keys_are =
          sym (dedup-distinct keys keys_distinct)
          ∙ dedup_in_order (id_cmp terms) (id_order terms) nat_eq nat_eq_equiv eqb-true (filter has_any nodes)
          keys keys_moved keys_ordered

      kept_are : in_term_order terms (filter has_any nodes) ≡ filter has_any (in_term_order terms nodes)
      kept_are =
          let all = in_term_order terms nodes in
          let lists = in_term_order_lists terms nodes in
          sym (in_term_order_is terms (filter has_any nodes) (filter has_any all) (record {
            sorted = IsStrictlySortedBy-filter (id_cmp terms) has_any all lists.sorted;
            each = (SameMembers-filter has_any all nodes (record { each = lists.each })).each;
          }))

      pub rows_in_term_order : flat_map (λ at. at.rows.items) sorted
          ≡ flat_map f (in_term_order terms nodes)
      rows_in_term_order =
          sym (flat_map-map (λ (e : ℕ × List ResultRow). e.1) entry_of sorted)
          ∙ rows_of_nodes es
          (All-permutation (λ e. e.1 ≡ f e.0) (entries_at nodes) es moved (entries_right nodes))
          ∙ ap (flat_map f) (keys_are ∙ kept_are)
          ∙ without_none (in_term_order terms nodes)

-- ---- target nodes by number, in the place of those in term order

module _ (shapes : List PlanShape) (g : Graph) (shape : ℕ) (numbers : List ℕ)
    (lists : Lists nat_cmp (Contains (target_nodes shapes g shape)) numbers)
  where
    abbrev ids : List ℕ
    ids = flat_map (nodes_of_target g) (targets_of (slice_get shapes shape))

    abbrev all : List ℕ
    all = in_term_order g.terms ids

    pub as_many : length numbers ≡ length all
    as_many =
        let held = λ (ns : List ℕ) (n : ℕ). Contains-test nat_eq nat_eq_equiv eqb-true ns n in
        length-from_same_keys nat_eq_equiv numbers all (IsDistinct-ascending numbers lists.sorted)
        (IsDistinct-in_term_order g.terms ids)
        (λ n. both_ways (list_any (nat_eq n) numbers) (list_any (nat_eq n) all)
        (λ h. (held all n).1 ((lists.each n).0 ((held numbers n).0 h)))
        (λ h. (held numbers n).1 ((lists.each n).1 ((held all n).0 h))))

    pub same_pairs : SameMembers (map (at_shape shape) numbers) (map (at_shape shape) all)
    same_pairs = SameMembers-map (at_shape shape) numbers all (record { each = lists.each })

    pub same_rows : flat_map (λ n. results shapes g (at_shape shape n)) (in_term_order g.terms numbers)
        ≡ flat_map (results shapes g) (map (at_shape shape) all)
    same_rows =
        let sorted : in_term_order g.terms numbers ≡ all =
        sym (in_term_order_is g.terms numbers all (record {
          sorted = (in_term_order_lists g.terms ids).sorted;
          each = λ n. ((lists.each n).1, (lists.each n).0);
        })) in
        ap (flat_map (λ n. results shapes g (at_shape shape n))) sorted
        ∙ sym (flat_map-map (results shapes g) (at_shape shape) all)
