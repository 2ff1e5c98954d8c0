-- Where no shape has a node and nothing is staged.
use Rattle.std.specs.Prelude.{◌≡◌, ℕ, zero, suc, [], ◌∷◌, ◌++◌, flat_map, length, slice_get, All}
use Rattle.std.specs.Prelude.{Contains, List, Option, Some, None}
use Rattle.std.specs.List.Sorted.{IsStrictlySortedBy}
use Rattle.std.proofs.Common.{refl, sym, ap, ◌∙◌, subst, arith, true≢false}
use Rattle.shx_term.proofs.MemberLemmas.{All_head, All_of_each, All_tail, Contains-from_map, each_of_All}
use Rattle.shx_term.specs.TermOrder.{term_cmp}
use Rattle.comp_core.specs.declared.row.ResultRow.{ResultRow}
use Rattle.pair_results.specs.PairResults.{HasNothing, Nodes, nodes_if_any, place_of, rows_in}
use Rattle.pair_results.specs.PairResults.{rows_of_nodes}
use Rattle.pair_results.specs.inner.Invariant.{IsCounted, Staged}
use Rattle.pair_results.proofs.ShapeLemmas.{entries_of, kept, Tree, Trees}
use Rattle.pair_results.proofs.NodeLemmas.{IsInOrder}

abbrev pub IsEmpty : Tree → Type 0
IsEmpty tree = tree.entries ≡ []

no_nodes : (trees : Trees) → All IsEmpty trees → (shape : ℕ)
    → nodes_if_any (slice_get (entries_of trees) shape) ≡ []
no_nodes [] empty shape = refl
no_nodes (tree ∷ trees) empty zero = All_head IsEmpty tree trees empty
no_nodes (tree ∷ trees) empty (suc shape) = no_nodes trees (All_tail IsEmpty tree trees empty) shape

no_rows : (trees : Trees) → All IsEmpty trees → flat_map rows_of_nodes (entries_of trees) ≡ []
no_rows [] empty = refl
no_rows (tree ∷ trees) empty =
    let here = All_head IsEmpty tree trees empty in
    let rest = no_rows trees (All_tail IsEmpty tree trees empty) in
    λ i. rows_of_nodes (here i) ++ rest i

nothing_sorted : IsStrictlySortedBy term_cmp []
unfolding IsStrictlySortedBy
nothing_sorted = tt

sorted_empty : (trees : Trees) → All IsEmpty trees
    → All IsInOrder (entries_of trees)
sorted_empty trees empty =
    All_of_each IsInOrder (entries_of trees) each
  where
    each : (nodes : Nodes) → Contains (entries_of trees) nodes → IsInOrder nodes
    each nodes c =
        let found = Contains-from_map (λ (t : Tree). t.entries) trees nodes c in
        let none = found.2 ∙ each_of_All IsEmpty trees empty found.0 found.1 in
        subst IsInOrder (sym none) nothing_sorted

module _ (trees : Trees) (staged : Staged) (empty : All IsEmpty trees) where
  apart : ◌≡◌ {A = Option (List ResultRow)} None (Some []) → ⊥
  apart e = cc

  pub HasNothing-empty : HasNothing (kept (entries_of trees) staged)
  HasNothing-empty = record {
    each = λ shape node. ap (λ nodes. rows_in nodes node) (no_nodes trees empty shape);
  }

  pub IsCounted-empty : staged ≡ [] → IsCounted (kept (entries_of trees) staged) 0 0
  IsCounted-empty none = subst (λ s. IsCounted (kept (entries_of trees) s) 0 0) (sym none) (record {
    ordered = sorted_empty trees empty;
    places = record { each = λ shape node there. absurd (true≢false (sym there)) };
    needed = record {
      each = λ shape node is.
          absurd (apart (sym (ap (λ nodes. place_of nodes node) (no_nodes trees empty shape)) ∙ is));
    };
    counted = sym (ap length (no_rows trees empty));
    staged = omega arith;
    fits = omega arith;
  })
