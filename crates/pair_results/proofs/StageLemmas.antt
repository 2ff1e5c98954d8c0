-- What is kept and staged, once a place was made, and once more was staged or the place was lost.
use Rattle.std.specs.Prelude.{◌≡◌, ℕ, ◌+◌, ◌<◌, ◌≤◌, ◌^◌, Bool, true, false, List, [], length, flat_map}
use Rattle.std.specs.Prelude.{Option, Some, None, is_some, IsSome, if◌then◌else◌, Result, Ok, Err, OnErr}
use Rattle.std.specs.Map.{lookup}
use Rattle.std.specs.BTreeMap.{IsOrdered}
use Rattle.std.proofs.Common.{refl, sym, ap, ◌∙◌, subst, arith, get_or, true≢false}
use Rattle.std.proofs.Math.ListN.{set}
use Rattle.std.proofs.lemmas.List.{get_or-set_same, map-set}
use Rattle.shx_term.specs.TermOrder.{term_cmp}
use Rattle.shx_term.specs.declared.term.Term.{Term}
use Rattle.comp_core.specs.declared.row.ResultRow.{ResultRow}
use Rattle.pair_results.specs.PairResults.{Kept, Nodes, all_rows, is_at, nodes_of, or_else, place_of}
use Rattle.pair_results.specs.PairResults.{rows_after}
use Rattle.pair_results.specs.PairResults.{rows_at, rows_if_any, rows_of_nodes, staged_at, SameChanges}
use Rattle.pair_results.specs.PairResults.{SameRows}
use Rattle.pair_results.specs.PairResults.{Stages}
use Rattle.pair_results.specs.inner.Invariant.{AddsAt, AreNeeded, HavePlaces, IsCounted, IsFilled}
use Rattle.pair_results.specs.inner.Invariant.{KeepPlaces, SameOtherPlaces, SameRowsIn, Staged, staged_rows}
use Rattle.pair_results.proofs.NodeLemmas.{IsInOrder}
use Rattle.pair_results.proofs.OrderLemmas.{nodes_sorted}
use Rattle.pair_results.proofs.ShapeLemmas.{by_shape, entries_of, kept, nodes_here, nodes_indexed}
use Rattle.pair_results.proofs.ShapeLemmas.{within_trees, HavePlaces-replaced, Tree, Trees}
use Rattle.pair_results.proofs.ShapeLemmas.{AreNeeded-replaced, IsCounted-replaced, SameRows-replaced}
use Rattle.pair_results.proofs.StagedLemmas.{at, at_exact, at_itself}

-- what holds anyhow holds where a call is refused
pub on_any_Err : {X E : Type 0} (r : Result X E) (P : Type 0) → P → OnErr r P
on_any_Err (Ok x) P holds = tt
on_any_Err (Err e) P holds = holds

-- ---- the nodes of one shape, twice in turn

pub SameRowsIn-then : (a b c : Nodes) → SameRowsIn a b → SameRowsIn b c → SameRowsIn a c
SameRowsIn-then a b c first second = record { each = λ node. second.each node ∙ first.each node }

pub SameOtherPlaces-then : (node : Term) (a b c : Nodes) → SameOtherPlaces node a b
    → SameOtherPlaces node b c → SameOtherPlaces node a c
SameOtherPlaces-then node a b c first second = record {
  each = λ other apart. second.each other apart ∙ first.each other apart;
}

-- what becomes of the nodes of a shape where the place of one is taken out again
pub record Vacates (node : Term) (old new : Tree) : Type 0 where
  pub rows : SameRowsIn old.entries new.entries
  pub others : SameOtherPlaces node old.entries new.entries
  pub filled : IsFilled new.entries node
  pub all : rows_of_nodes new.entries ≡ rows_of_nodes old.entries
  pub ordered : IsOrdered term_cmp old → IsOrdered term_cmp new

pub Vacates-set : (trees : Trees) (shape : ℕ) (node : Term) (first second new : Tree)
    → shape < length trees → second ≡ get_or (set trees shape first) shape second → Vacates node second new
    → Vacates node first new
Vacates-set trees shape node first second new inside is vacates =
    subst (λ tree. Vacates node tree new) (is ∙ get_or-set_same trees shape first second inside) vacates

-- ---- what has no place is not staged

not_staged : (k : Kept) (shape : ℕ) (node : Term) → HavePlaces k → place_of (nodes_of k shape) node ≡ None
    → staged_at k shape node ≡ None
not_staged k shape node places none = by (staged_at k shape node) refl
  where
    by : (found : Option (List ResultRow)) → staged_at k shape node ≡ found → found ≡ None
    by None is = refl
    by (Some rows) is =
        let there : IsSome (staged_at k shape node) = ap is_some is in
        absurd (true≢false (sym (places.each shape node there) ∙ ap is_some none))

-- so no results may be staged there by doing nothing
pub Stages-nothing : (k : Kept) (shape : ℕ) (node : Term) (rows : List ResultRow) → HavePlaces k
    → place_of (nodes_of k shape) node ≡ None → rows ≡ [] → Stages k k shape node rows
Stages-nothing k shape node rows places none empty = record {
  each = λ n other. by n other (at shape node n other) refl;
}
  where
    here : rows_after k shape node ≡ rows
    here =
        ap (or_else (rows_at k shape node)) (not_staged k shape node places none)
        ∙ ap rows_if_any none
        ∙ sym empty

    by : (n : ℕ) (other : Term) (b : Bool) → at shape node n other ≡ b
        → rows_after k n other ≡ (if at shape node n other then rows else rows_after k n other)
    by n other true is =
        let same = at_exact shape node n other is in
        subst (λ m. rows_after k m other ≡ rows) same.0
        (subst (λ t. rows_after k shape t ≡ rows) same.1 here)
        ∙ sym (ap (λ b. if b then rows else rows_after k n other) is)
    by n other false is = sym (ap (λ b. if b then rows else rows_after k n other) is)

-- ---- the nodes of a shape have the results that they had

module _ (shapes : List Nodes) (staged left : Staged) (shape : ℕ) (inside : shape < length shapes)
    (nodes es : Nodes) (same : nodes_of (kept shapes staged) shape ≡ nodes)
  where
    abbrev old : Kept
    old = kept shapes staged

    abbrev new : Kept
    new = kept (set shapes shape es) left

    pub SameRows-at : SameRowsIn nodes es → SameRows old new
    SameRows-at rows =
        SameRows-replaced shapes staged left shape es inside (subst (λ m. SameRowsIn m es) (sym same) rows)

    pub SameChanges-at : left ≡ staged → SameRowsIn nodes es → SameChanges old new
    SameChanges-at is rows =
        let kept_rows = SameRows-at rows in
        record { each = λ n other i. or_else (kept_rows.each n other i) (lookup (is_at n other) (is i)) }

    pub Stages-at : (node : Term) (rows : List ResultRow) → AddsAt staged left shape node rows
        → SameRowsIn nodes es → Stages old new shape node rows
    Stages-at node rows adds here = record {
      each = λ n other.
          ap (or_else (rows_at new n other)) (adds.each n other)
          ∙ by n other (at shape node n other);
    }
      where
        by : (n : ℕ) (other : Term) (b : Bool)
            → or_else (rows_at new n other) (if b then Some rows else lookup (is_at n other) staged)
            ≡ (if b then rows else rows_after old n other)
        by n other true = refl
        by n other false =
            let kept_rows = SameRows-at here in
            ap (λ list. or_else list (lookup (is_at n other) staged)) (kept_rows.each n other)

    -- one place is lost, at which nothing was
    pub HavePlaces-lost : (node : Term) → HavePlaces old → left ≡ staged → SameOtherPlaces node nodes es
        → place_of nodes node ≡ None → HavePlaces new
    HavePlaces-lost node places is keep none =
        let was : place_of (nodes_of old shape) node ≡ None = ap (λ m. place_of m node) same ∙ none in
        let nothing : lookup (is_at shape node) left ≡ None =
        ap (lookup (is_at shape node)) is ∙ not_staged old shape node places was in
        HavePlaces-replaced shapes staged left shape es inside node places
        (subst (λ m. SameOtherPlaces node m es) (sym same) keep)
        (λ there. absurd (true≢false (sym there ∙ ap is_some nothing)))
        (λ n other there. subst (λ (s : Staged). IsSome (lookup (is_at n other) s)) is there)

    -- none is lost
    grown : KeepPlaces nodes es → (n : ℕ) (other : Term) → IsSome (place_of (nodes_of old n) other)
        → IsSome (place_of (nodes_of new n) other)
    grown keep n other =
        by_shape shapes staged left shape es inside
        (λ m list. IsSome (place_of (nodes_of old m) other) → IsSome (place_of list other))
        (λ there. keep.each other (subst (λ m. IsSome (place_of m other)) same there)) (λ m _ there. there) n

    pub HavePlaces-grown : HavePlaces old → left ≡ staged → KeepPlaces nodes es → HavePlaces new
    HavePlaces-grown places is keep = record {
      each = λ n other there.
          let was = subst (λ (s : Staged). IsSome (lookup (is_at n other) s)) is there in
          grown keep n other (places.each n other was);
    }

    -- and more is staged at a place
    pub HavePlaces-staged : (node : Term) (rows : List ResultRow) → HavePlaces old
        → AddsAt staged left shape node rows → KeepPlaces nodes es → IsSome (place_of es node)
        → HavePlaces new
    HavePlaces-staged node rows places adds keep made = record {
      each = λ n other there.
          by n other (at shape node n other) refl (subst IsSome (adds.each n other) there);
    }
      where
        at_node : IsSome (place_of (nodes_of new shape) node)
        at_node =
            subst (λ m. IsSome (place_of m node))
            (sym (nodes_here shapes staged left shape es inside shape refl)) made

        by : (n : ℕ) (other : Term) (b : Bool) → at shape node n other ≡ b
            → IsSome (if at shape node n other then Some rows else lookup (is_at n other) staged)
            → IsSome (place_of (nodes_of new n) other)
        by n other true is there =
            let same_place = at_exact shape node n other is in
            subst (λ m. IsSome (place_of (nodes_of new m) other)) same_place.0
            (subst (λ t. IsSome (place_of (nodes_of new shape) t)) same_place.1 at_node)
        by n other false is there =
            let was =
            subst (λ b. IsSome (if b then Some rows else lookup (is_at n other) staged)) is there in
            grown keep n other (places.each n other was)

    -- nothing changes
    pub AreNeeded-same : AreNeeded old → left ≡ staged → es ≡ nodes → AreNeeded new
    AreNeeded-same needed is same_nodes = record {
      each = λ n other empty.
          subst (λ (s : Staged). IsSome (lookup (is_at n other) s)) (sym is)
          (by_shape shapes staged left shape es inside
          (λ m list. place_of list other ≡ Some [] → IsSome (lookup (is_at m other) staged))
          (λ here. needed.each shape other
          (ap (λ m. place_of m other) (same ∙ sym same_nodes) ∙ here))
          (λ m _ there. needed.each m other there) n empty);
    }

    -- the place of one is lost
    pub AreNeeded-lost : (node : Term) → AreNeeded old → left ≡ staged → SameOtherPlaces node nodes es
        → IsFilled es node → AreNeeded new
    AreNeeded-lost node needed is keep filled =
        AreNeeded-replaced shapes staged left shape es inside node needed
        (subst (λ m. SameOtherPlaces node m es) (sym same) keep) (λ empty. absurd (filled empty))
        (λ n other _ there. subst (λ (s : Staged). IsSome (lookup (is_at n other) s)) (sym is) there)

    -- more is staged at a place
    pub AreNeeded-staged : (node : Term) (rows : List ResultRow) → AreNeeded old
        → AddsAt staged left shape node rows → SameOtherPlaces node nodes es → AreNeeded new
    AreNeeded-staged node rows needed adds keep =
        AreNeeded-replaced shapes staged left shape es inside node needed
        (subst (λ m. SameOtherPlaces node m es) (sym same) keep)
        (λ _. rw (adds.each shape node, at_itself shape node) refl)
        (λ n other apart there. rw (adds.each n other, apart) there)

    pub IsCounted-at : (count coming more comes : ℕ) → IsCounted old count coming
        → IsInOrder es → HavePlaces new → AreNeeded new → rows_of_nodes es ≡ rows_of_nodes nodes
        → length (staged_rows new) ≤ length (staged_rows old) + more
        → length (staged_rows old) + more ≤ comes → length (all_rows old) + comes < 2 ^ 64
        → IsCounted new count comes
    IsCounted-at count coming more comes was sorted places needed all more_staged enough fits =
        let counted = was.counted in
        let long : length (rows_of_nodes es) ≡ length (rows_of_nodes nodes) = ap length all in
        let before : length (rows_of_nodes (nodes_of old shape)) ≡ length (rows_of_nodes nodes) =
        ap (λ m. length (rows_of_nodes m)) same in
        IsCounted-replaced shapes staged left shape es inside count coming count comes was sorted places
        needed (omega arith) (omega arith) (omega arith)

-- ---- the same of shapes as code keeps them, and of the value that contracts see

module _ (trees : Trees) (staged left : Staged) (value : Kept) (view : kept (entries_of trees) staged ≡ value)
    (shape : ℕ) (within : shape < length value.shapes) (tree es : Tree)
    (is : tree ≡ get_or trees shape tree)
  where
    inside : shape < length (entries_of trees)
    inside = subst (λ (k : Kept). shape < length k.shapes) (sym view) within

    same : nodes_of (kept (entries_of trees) staged) shape ≡ tree.entries
    same = nodes_indexed trees shape tree (within_trees trees shape inside) is

    abbrev stored : Kept
    stored = kept (entries_of (set trees shape es)) left

    is_stored : kept (set (entries_of trees) shape es.entries) left ≡ stored
    is_stored = ap (λ shapes. kept shapes left) (sym (map-set (λ t. t.entries) trees shape es))

    pub SameRows-stored : SameRowsIn tree.entries es.entries → SameRows value stored
    SameRows-stored rows =
        subst (λ k. SameRows k stored) view
        (subst (SameRows (kept (entries_of trees) staged)) is_stored
        (SameRows-at (entries_of trees) staged left shape inside tree.entries es.entries same rows))

    pub SameChanges-stored : left ≡ staged → SameRowsIn tree.entries es.entries → SameChanges value stored
    SameChanges-stored kept_staged rows =
        subst (λ k. SameChanges k stored) view
        (subst (SameChanges (kept (entries_of trees) staged)) is_stored
        (SameChanges-at (entries_of trees) staged left shape inside tree.entries es.entries same kept_staged
        rows))

    pub Stages-stored : (node : Term) (rows : List ResultRow) → AddsAt staged left shape node rows
        → SameRowsIn tree.entries es.entries → Stages value stored shape node rows
    Stages-stored node rows adds here_same =
        subst (λ k. Stages k stored shape node rows) view
        (subst (λ k. Stages (kept (entries_of trees) staged) k shape node rows) is_stored
        (Stages-at (entries_of trees) staged left shape inside tree.entries es.entries same node rows adds
        here_same))

    module _ (count coming more comes : ℕ) (was : IsCounted (kept (entries_of trees) staged) count coming)
        (order : IsInOrder tree.entries → IsInOrder es.entries)
        (all : rows_of_nodes es.entries ≡ rows_of_nodes tree.entries)
        (enough : length (staged_rows value) + more ≤ comes) (fits : length (all_rows value) + comes < 2 ^ 64)
      where
        counted : HavePlaces (kept (set (entries_of trees) shape es.entries) left)
            → AreNeeded (kept (set (entries_of trees) shape es.entries) left)
            → length (flat_map (λ e. e.1) left) ≤ length (flat_map (λ e. e.1) staged) + more
            → IsCounted stored count comes
        counted places needed more_staged =
            subst (λ k. IsCounted k count comes) is_stored
            (IsCounted-at (entries_of trees) staged left shape inside tree.entries es.entries same count
            coming more comes was
            (order (subst (λ m. IsInOrder m) same
            (nodes_sorted (entries_of trees) shape was.ordered)))
            places needed all more_staged
            (subst (λ k. length (staged_rows k) + more ≤ comes) (sym view) enough)
            (subst (λ k. length (all_rows k) + comes < 2 ^ 64) (sym view) fits))

        no_more : left ≡ staged
            → length (flat_map (λ e. e.1) left) ≤ length (flat_map (λ e. e.1) staged) + more
        no_more kept_staged =
            let long : length (flat_map (λ e. e.1) left) ≡ length (flat_map (λ e. e.1) staged) =
            ap (λ (s : Staged). length (flat_map (λ e. e.1) s)) kept_staged in
            omega arith

        -- nothing changes
        pub IsCounted-same : left ≡ staged → es.entries ≡ tree.entries → IsCounted stored count comes
        IsCounted-same kept_staged is_same =
            counted
            (HavePlaces-grown (entries_of trees) staged left shape inside tree.entries es.entries same
            was.places kept_staged
            (record { each = λ other there. subst (λ m. IsSome (place_of m other)) (sym is_same) there }))
            (AreNeeded-same (entries_of trees) staged left shape inside tree.entries es.entries same
            was.needed kept_staged is_same)
            (no_more kept_staged)

        pub IsCounted-lost : (node : Term) → left ≡ staged → SameOtherPlaces node tree.entries es.entries
            → IsFilled es.entries node → place_of tree.entries node ≡ None → IsCounted stored count comes
        IsCounted-lost node kept_staged keep filled none =
            counted
            (HavePlaces-lost (entries_of trees) staged left shape inside tree.entries es.entries same node
            was.places kept_staged keep none)
            (AreNeeded-lost (entries_of trees) staged left shape inside tree.entries es.entries same node
            was.needed kept_staged keep filled)
            (no_more kept_staged)

        pub IsCounted-staged : (node : Term) (rows : List ResultRow) → AddsAt staged left shape node rows
            → more ≡ length rows → KeepPlaces tree.entries es.entries
            → SameOtherPlaces node tree.entries es.entries → IsSome (place_of es.entries node)
            → IsCounted stored count comes
        IsCounted-staged node rows adds many keep others made =
            let more_staged = adds.count in
            counted
            (HavePlaces-staged (entries_of trees) staged left shape inside tree.entries es.entries same node
            rows was.places adds keep made)
            (AreNeeded-staged (entries_of trees) staged left shape inside tree.entries es.entries same node
            rows was.needed adds others)
            (omega arith)
