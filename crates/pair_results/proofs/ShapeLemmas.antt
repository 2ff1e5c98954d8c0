-- What is kept, once the nodes of one shape are replaced.
use Rattle.std.specs.Prelude.{◌≡◌, ℕ, zero, suc, ◌+◌, ◌<◌, ◌≤◌, ◌^◌, Bool, true, false, ◌&&◌, ◌==◌, List, []}
use Rattle.std.specs.Prelude.{◌∷◌}
use Rattle.std.specs.Prelude.{length, flat_map, slice_get, map, Some, is_some, IsSome, cond, ◌-◌}
use Rattle.std.specs.Option.{option_map}
use Rattle.std.specs.BTreeMap.{BTreeMap}
use Rattle.std.specs.Cmp.{nat_eq_equiv}
use Rattle.std.specs.Map.{lookup}
use Rattle.std.proofs.Common.{refl, sym, ap, ◌∙◌, subst, arith, get_or, length-append, true≢false}
use Rattle.std.proofs.lemmas.List.{length-map}
use Rattle.std.proofs.Math.ListN.{set}
use Rattle.std.proofs.lemmas.Bool.{eqb-true, eqb-false}
use Rattle.std.proofs.lemmas.List.Elements.{All-set}
use Rattle.std.proofs.lemmas.Option.{slice_get-get_or, slice_get-map}
use Rattle.shx_term.specs.declared.term.Term.{Term}
use Rattle.shx_term.specs.inner.TermOrderLaws.{same_term_exact, same_term_itself}
use Rattle.comp_core.specs.declared.row.ResultRow.{ResultRow}
use Rattle.pair_results.specs.PairResults.{Kept, Nodes, SameChanges, SameRows}
use Rattle.pair_results.specs.PairResults.{is_at, nodes_if_any, nodes_of, or_else, place_of, rows_after}
use Rattle.pair_results.specs.PairResults.{rows_at, rows_if_any, rows_in, rows_of_nodes}
use Rattle.pair_results.specs.inner.Invariant.{AreNeeded, HavePlaces, IsCounted, IsFilled}
use Rattle.pair_results.specs.inner.Invariant.{SameOtherPlaces}
use Rattle.pair_results.specs.inner.Invariant.{SameRowsIn, Staged, staged_rows}
use Rattle.pair_results.specs.declared.pair_results.Place.{Place}
use Rattle.pair_results.proofs.NodeLemmas.{rows_in_within, tied, IsInOrder}
use Rattle.pair_results.proofs.StagedLemmas.{at, at_exact, count-left, found_before, left_found, was_found}
use Rattle.pair_results.proofs.StagedLemmas.{TakesFirst}

abbrev pub kept : List Nodes → Staged → Kept
kept shapes staged = record { shapes = shapes; staged = staged }

-- ---- lists of nodes

get-set : (shapes : List Nodes) (k n : ℕ) (es : Nodes) → k < length shapes
    → (k ≡ n → slice_get (set shapes k es) n ≡ Some es)
    × ((k ≡ n → ⊥) → slice_get (set shapes k es) n ≡ slice_get shapes n)
get-set [] k n es inside = absurd (omega arith)
get-set (x ∷ shapes) zero zero es inside = (λ _. refl, λ apart. absurd (apart refl))
get-set (x ∷ shapes) zero (suc n) es inside = (λ e. absurd (omega arith), λ _. refl)
get-set (x ∷ shapes) (suc k) zero es inside = (λ e. absurd (omega arith), λ _. refl)
get-set (x ∷ shapes) (suc k) (suc n) es inside =
    let rest = get-set shapes k n es (omega arith) in
    (λ e. rest.0 (omega arith), λ apart. rest.1 (λ e. apart (ap suc e)))

count-set : (shapes : List Nodes) (k : ℕ) (es : Nodes) → k < length shapes
    → length (flat_map rows_of_nodes (set shapes k es))
    + length (rows_of_nodes (nodes_if_any (slice_get shapes k)))
    ≡ length (flat_map rows_of_nodes shapes) + length (rows_of_nodes es)
count-set [] k es inside = absurd (omega arith)
count-set (x ∷ shapes) zero es inside =
    let a = length-append (rows_of_nodes es) (flat_map rows_of_nodes shapes) in
    let b = length-append (rows_of_nodes x) (flat_map rows_of_nodes shapes) in
    omega arith
count-set (x ∷ shapes) (suc k) es inside =
    let rest = count-set shapes k es (omega arith) in
    let a = length-append (rows_of_nodes x) (flat_map rows_of_nodes (set shapes k es)) in
    let b = length-append (rows_of_nodes x) (flat_map rows_of_nodes shapes) in
    omega arith

pub shape_within : (shapes : List Nodes) (k : ℕ) (node : Term)
    → IsSome (place_of (nodes_if_any (slice_get shapes k)) node) → k < length shapes
shape_within [] k node there = absurd (true≢false (sym there))
shape_within (x ∷ shapes) zero node there = omega arith
shape_within (x ∷ shapes) (suc k) node there =
    let rest = shape_within shapes k node there in
    omega arith

-- ---- the nodes of a shape are replaced

module _ (shapes : List Nodes) (staged left : Staged) (shape : ℕ) (es : Nodes)
    (inside : shape < length shapes)
  where
    abbrev old : Kept
    old = kept shapes staged

    abbrev new : Kept
    new = kept (set shapes shape es) left

    pub nodes_here : (n : ℕ) → shape ≡ n → nodes_of new n ≡ es
    nodes_here n same = ap nodes_if_any ((get-set shapes shape n es inside).0 same)

    nodes_elsewhere : (n : ℕ) → (shape ≡ n → ⊥) → nodes_of new n ≡ nodes_of old n
    nodes_elsewhere n apart = ap nodes_if_any ((get-set shapes shape n es inside).1 apart)

    -- what holds of these nodes, and of those of other shapes
    pub by_shape : (P : ℕ → Nodes → Type 0) → P shape es → ((n : ℕ) → (shape ≡ n → ⊥) → P n (nodes_of old n))
        → (n : ℕ) → P n (nodes_of new n)
    by_shape P at_shape others n = by (shape == n) refl
      where
        by : (b : Bool) → (shape == n) ≡ b → P n (nodes_of new n)
        by true is =
            let same = eqb-true shape n is in
            subst (P n) (sym (nodes_here n same)) (subst (λ m. P m es) same at_shape)
        by false is =
            let apart = eqb-false shape n is in
            subst (P n) (sym (nodes_elsewhere n apart)) (others n apart)

    pub SameRows-replaced : SameRowsIn (nodes_of old shape) es → SameRows old new
    SameRows-replaced same = record {
      each = λ n other.
          by_shape (λ m nodes. rows_in nodes other ≡ rows_at old m other) (same.each other) (λ m _. refl) n;
    }

    -- the places of what is staged then
    pub HavePlaces-replaced : (node : Term) → HavePlaces old → SameOtherPlaces node (nodes_of old shape) es
        → (IsSome (lookup (is_at shape node) left) → IsSome (place_of es node))
        → ((n : ℕ) (other : Term) → IsSome (lookup (is_at n other) left)
        → IsSome (lookup (is_at n other) staged))
        → HavePlaces new
    HavePlaces-replaced node places keep at_node fewer = record {
      each = λ n other.
          by_shape (λ m nodes. IsSome (lookup (is_at m other) left) → IsSome (place_of nodes other))
          (λ there. by other (tied node other) refl there)
          (λ m _ there. places.each m other (fewer m other there)) n;
    }
      where
        by : (other : Term) (b : Bool) → tied node other ≡ b → IsSome (lookup (is_at shape other) left)
            → IsSome (place_of es other)
        by other true is there =
            let same = same_term_exact node other is in
            subst (λ t. IsSome (place_of es t)) same
            (at_node (subst (λ t. IsSome (lookup (is_at shape t) left)) (sym same) there))
        by other false is there =
            subst IsSome (sym (keep.each other is)) (places.each shape other (fewer shape other there))

    -- the places that are empty then
    pub AreNeeded-replaced : (node : Term) → AreNeeded old → SameOtherPlaces node (nodes_of old shape) es
        → (place_of es node ≡ Some [] → IsSome (lookup (is_at shape node) left))
        → ((n : ℕ) (other : Term) → at shape node n other ≡ false → IsSome (lookup (is_at n other) staged)
        → IsSome (lookup (is_at n other) left))
        → AreNeeded new
    AreNeeded-replaced node needed keep at_node more = record {
      each = λ n other.
          by_shape (λ m nodes. place_of nodes other ≡ Some [] → IsSome (lookup (is_at m other) left))
          (λ empty. here other (tied node other) refl empty)
          (λ m apart empty. more m other (elsewhere m other apart) (needed.each m other empty)) n;
    }
      where
        elsewhere : (m : ℕ) (other : Term) → (shape ≡ m → ⊥) → at shape node m other ≡ false
        elsewhere m other apart = by (shape == m) refl
          where
            by : (b : Bool) → (shape == m) ≡ b → (b && tied node other) ≡ false
            by true is = absurd (apart (eqb-true shape m is))
            by false is = refl

        here : (other : Term) (b : Bool) → tied node other ≡ b → place_of es other ≡ Some []
            → IsSome (lookup (is_at shape other) left)
        here other true is empty =
            let same = same_term_exact node other is in
            subst (λ t. IsSome (lookup (is_at shape t) left)) same
            (at_node (subst (λ t. place_of es t ≡ Some []) (sym same) empty))
        here other false is empty =
            let there : IsSome (lookup (is_at shape other) staged) =
            needed.each shape other (sym (keep.each other is) ∙ empty) in
            more shape other ((λ i. nat_eq_equiv.refl shape i && tied node other) ∙ is) there

    pub IsCounted-replaced : (count coming counted comes : ℕ) → IsCounted old count coming
        → IsInOrder es → HavePlaces new → AreNeeded new
        → counted + length (rows_of_nodes (nodes_of old shape)) ≡ count + length (rows_of_nodes es)
        → length (staged_rows new) ≤ comes → counted + comes < 2 ^ 64 → IsCounted new counted comes
    IsCounted-replaced count coming counted comes before sorted places needed is enough fits = record {
      ordered = All-set IsInOrder shapes shape es sorted before.ordered;
      places = places;
      needed = needed;
      counted =
          let was = before.counted in
          let set_count = count-set shapes shape es inside in
          omega arith;
      staged = enough;
      fits = fits;
    }

pub SameRows-then : (a b c : Kept) → SameRows a b → SameRows b c → SameRows a c
SameRows-then a b c first second = record {
  each = λ shape node. second.each shape node ∙ first.each shape node;
}

-- shapes, as code keeps them
abbrev pub Tree : Type 0
Tree = BTreeMap Term (List ResultRow)

abbrev pub Trees : Type 0
Trees = List Tree

abbrev pub entries_of : Trees → List Nodes
entries_of trees = map (λ t. t.entries) trees

pub within_trees : (trees : Trees) (shape : ℕ) → shape < length (entries_of trees) → shape < length trees
within_trees trees shape inside = subst (λ n. shape < n) (length-map trees (λ t. t.entries)) inside

pub nodes_indexed : (trees : Trees) (shape : ℕ) (tree : Tree) → shape < length trees
    → tree ≡ get_or trees shape tree
    → nodes_if_any (slice_get (entries_of trees) shape) ≡ tree.entries
nodes_indexed trees shape tree inside is =
    ap nodes_if_any
    (slice_get-map (λ t. t.entries) trees shape
    ∙ ap (option_map (λ t. t.entries)) (slice_get-get_or trees shape tree inside))
    ∙ ap (λ t. t.entries) (sym is)

-- ---- the first of what is staged is made

-- new is old with these results at a node, and no other place is lost
pub record Makes (old new : Nodes) (node : Term) (rows : List ResultRow) : Type 0 where
  pub each : (other : Term) → rows_in new other ≡ cond (tied node other) rows (rows_in old other)
  pub places : SameOtherPlaces node old new
  pub filled : IsFilled new node

pub Makes-put : (old put new : Nodes) (node : Term) (rows : List ResultRow)
    → ((other : Term) → place_of put other ≡ cond (tied node other) (Some rows) (place_of old other))
    → SameRowsIn put new → SameOtherPlaces node put new → IsFilled new node → Makes old new node rows
Makes-put old put new node rows is same keep filled = record {
  each = λ other. same.each other ∙ ap rows_if_any (is other) ∙ by other (tied node other);
  places = record {
    each = λ other apart.
        keep.each other apart
        ∙ is other
        ∙ ap (λ b. cond b (Some rows) (place_of old other)) apart;
  };
  filled = filled;
}
  where
    by : (other : Term) (b : Bool)
        → rows_if_any (cond b (Some rows) (place_of old other)) ≡ cond b rows (rows_in old other)
    by other true = refl
    by other false = refl

module _ (shapes : List Nodes) (staged left : Staged) (p : Place) (rows : List ResultRow)
    (takes : TakesFirst staged left p rows) (places : HavePlaces (kept shapes staged))
  where
    pub first_placed : IsSome (place_of (nodes_of (kept shapes staged) p.shape) p.node)
    first_placed = places.each p.shape p.node (rw (was_found staged left p rows takes) refl)

    pub first_within : p.shape < length shapes
    first_within = shape_within shapes p.shape p.node first_placed

    -- what goes was counted
    pub gone_counted : (nodes : Nodes) → nodes_of (kept shapes staged) p.shape ≡ nodes
        → (count coming gone : ℕ) → IsCounted (kept shapes staged) count coming
        → gone ≡ length (rows_in nodes p.node) → gone ≤ count
    gone_counted nodes same count coming gone was is =
        let counted = was.counted in
        let part = rows_in_within nodes p.node in
        let all = count-set shapes p.shape [] first_within in
        let held = ap (λ m. length (rows_of_nodes m)) same in
        omega arith

    module _ (nodes es : Nodes) (same : nodes_of (kept shapes staged) p.shape ≡ nodes) where
      abbrev before : Kept
      before = kept shapes staged

      abbrev after : Kept
      after = kept (set shapes p.shape es) left

      pub HavePlaces-taken : SameOtherPlaces p.node nodes es → HavePlaces after
      HavePlaces-taken keep =
          HavePlaces-replaced shapes staged left p.shape es first_within p.node places
          (subst (λ m. SameOtherPlaces p.node m es) (sym same) keep)
          (λ there. absurd (true≢false (sym there ∙ ap is_some takes.none)))
          (left_found staged left p rows takes)

      pub AreNeeded-taken : AreNeeded before → SameOtherPlaces p.node nodes es → IsFilled es p.node
          → AreNeeded after
      AreNeeded-taken needed keep filled =
          AreNeeded-replaced shapes staged left p.shape es first_within p.node needed
          (subst (λ m. SameOtherPlaces p.node m es) (sym same) keep)
          (λ empty. absurd (filled empty))
          (λ n other apart there. subst IsSome
          (found_before staged left p rows takes n other
          ∙ ap (λ b. cond b (Some rows) (lookup (is_at n other) left)) apart) there)

      -- what is not made is as it was
      pub SameRows-taken : SameRowsIn nodes es → SameRows before after
      SameRows-taken keep =
          SameRows-replaced shapes staged left p.shape es first_within
          (subst (λ m. SameRowsIn m es) (sym same) keep)

      pub IsCounted-taken : (count coming : ℕ) → IsCounted before count coming
          → IsInOrder es → SameOtherPlaces p.node nodes es → IsFilled es p.node
          → rows_of_nodes es ≡ rows_of_nodes nodes → IsCounted after count coming
      IsCounted-taken count coming was sorted keep filled all =
          let less = count-left staged left p rows takes in
          let enough = was.staged in
          let fits = was.fits in
          let long : length (rows_of_nodes es) ≡ length (rows_of_nodes nodes) = ap length all in
          let held = ap (λ m. length (rows_of_nodes m)) same in
          IsCounted-replaced shapes staged left p.shape es first_within count coming count coming was sorted
          (HavePlaces-taken keep) (AreNeeded-taken was.needed keep filled) (omega arith) (omega arith) fits

      module _ (makes : Makes nodes es p.node rows) where
        at_place : rows_at after p.shape p.node ≡ rows
        at_place =
            ap (λ m. rows_in m p.node) (nodes_here shapes staged left p.shape es first_within p.shape refl)
            ∙ makes.each p.node
            ∙ ap (λ b. cond b rows (rows_in nodes p.node)) (same_term_itself p.node)

        apart_from_place : (n : ℕ) (other : Term) → at p.shape p.node n other ≡ false
            → rows_at after n other ≡ rows_at before n other
        apart_from_place n other =
            by_shape shapes staged left p.shape es first_within
            (λ m list. at p.shape p.node m other ≡ false → rows_in list other ≡ rows_at before m other)
            (λ apart.
            makes.each other
            ∙ ap (λ b. cond b rows (rows_in nodes other))
            (sym (λ i. nat_eq_equiv.refl p.shape i && tied p.node other) ∙ apart)
            ∙ ap (λ m. rows_in m other) (sym same))
            (λ m _ _. refl) n

        pub SameChanges-made : SameChanges before after
        SameChanges-made = record { each = λ n other. by n other (at p.shape p.node n other) refl }
          where
            first : rows_after after p.shape p.node ≡ rows_after before p.shape p.node
            first =
                ap (or_else (rows_at after p.shape p.node)) takes.none
                ∙ at_place
                ∙ sym (ap (or_else (rows_at before p.shape p.node)) (was_found staged left p rows takes))

            by : (n : ℕ) (other : Term) (b : Bool) → at p.shape p.node n other ≡ b
                → rows_after after n other ≡ rows_after before n other
            by n other true is =
                let same_place = at_exact p.shape p.node n other is in
                subst (λ m. rows_after after m other ≡ rows_after before m other) same_place.0
                (subst (λ t. rows_after after p.shape t ≡ rows_after before p.shape t) same_place.1 first)
            by n other false is =
                let found : lookup (is_at n other) staged ≡ lookup (is_at n other) left =
                found_before staged left p rows takes n other
                ∙ ap (λ b. cond b (Some rows) (lookup (is_at n other) left)) is in
                λ i. or_else (apart_from_place n other is i) (sym found i)

        pub IsCounted-made : (count coming gone more : ℕ) → IsCounted before count coming
            → IsInOrder es → more ≡ length rows → gone ≤ count
            → length (rows_of_nodes es) + gone ≡ length (rows_of_nodes nodes) + length rows
            → IsCounted after (count - gone + more) (coming - more)
        IsCounted-made count coming gone more was sorted new less all =
            let left_count = count-left staged left p rows takes in
            let enough = was.staged in
            let fits = was.fits in
            let held = ap (λ m. length (rows_of_nodes m)) same in
            IsCounted-replaced shapes staged left p.shape es first_within count coming (count - gone + more)
            (coming - more) was sorted (HavePlaces-taken makes.places)
            (AreNeeded-taken was.needed makes.places makes.filled) (omega arith) (omega arith) (omega arith)
