-- The nodes of one shape: what is there once one was added, put or taken out.
use Rattle.std.specs.Prelude.{◌≡◌, ◌+◌, ◌≤◌, Bool, true, false, List, [], ◌∷◌, ◌++◌, length, Option, Some}
use Rattle.std.specs.Prelude.{None}
use Rattle.std.specs.Prelude.{IsSome, is_none, is_some, ◌==◌}
use Rattle.std.specs.List.Sorted.{IsStrictlySortedBy}
use Rattle.std.specs.Map.{keys_of, lookup, remove_entry, set_value}
use Rattle.std.specs.BTreeMap.{insert_entry}
use Rattle.std.specs.Ordering.{eq_by_cmp, is_eq, match_ordering}
use Rattle.std.specs.declared.cmp.Ordering.TheVariants.{Less, Equal, Greater}
use Rattle.std.proofs.Common.{refl, sym, ap, ◌∙◌, cond, arith, length-append, true≢false}
use Rattle.std.proofs.lemmas.Bool.{eqb-true}
use Rattle.shx_term.specs.TermOrder.{term_cmp}
use Rattle.shx_term.specs.declared.term.Term.{Term}
use Rattle.shx_term.specs.inner.TermOrderLaws.{same_term_exact, same_term_itself}
use Rattle.comp_core.specs.declared.row.ResultRow.{ResultRow}
use Rattle.pair_results.specs.PairResults.{Nodes, place_of, rows_if_any, rows_in, rows_of_nodes}
use Rattle.pair_results.specs.inner.Invariant.{IsFilled, KeepPlaces, SameOtherPlaces, SameRowsIn}

abbrev pub IsInOrder : Nodes → Type 0
IsInOrder nodes = IsStrictlySortedBy term_cmp (keys_of nodes)

abbrev pub tied : Term → Term → Bool
tied node other = eq_by_cmp term_cmp node other

pub none_of : {X : Type 0} (o : Option X) → is_some o ≡ false → o ≡ None
none_of None h = refl
none_of (Some x) h = cc

pub none_if : {X : Type 0} (o : Option X) → is_none o ≡ true → o ≡ None
none_if None h = refl
none_if (Some x) h = cc

pub empty_if : {X : Type 0} (xs : List X) → length xs ≡ 0 → xs ≡ []
empty_if [] h = refl
empty_if (x ∷ xs) h = absurd (omega arith)

pub empty_of : {X : Type 0} (xs : List X) → (length xs == 0) ≡ true → xs ≡ []
empty_of xs h = empty_if xs (eqb-true (length xs) 0 h)

-- ---- all results of a shape

-- a place with no results changes nothing, where there was none
pub all-inserted : (node : Term) (es : Nodes) → place_of es node ≡ None
    → rows_of_nodes (insert_entry term_cmp es node []) ≡ rows_of_nodes es
all-inserted node [] none = refl
all-inserted node (e ∷ es) none =
    elim (term_cmp node e.0) as
    (λ r. cond (is_eq r) (Some e.1) (place_of es node) ≡ None
    → rows_of_nodes (match_ordering r ((node, []) ∷ e ∷ es) ((e.0, []) ∷ es)
    (e ∷ insert_entry term_cmp es node [])) ≡ e.1 ++ rows_of_nodes es) [
      | Less ↦ λ h. refl
      | Equal ↦ λ h. cc
      | Greater ↦ λ h. ap (λ rows. e.1 ++ rows) (all-inserted node es h)
    ] none

-- nor does one that is taken out
pub all-removed : (test : Term → Bool) (es : Nodes) → rows_if_any (lookup test es) ≡ []
    → rows_of_nodes (remove_entry test es) ≡ rows_of_nodes es
all-removed test [] none = refl
all-removed test (e ∷ es) none =
    elim (test e.0) as
    (λ b. rows_if_any (cond b (Some e.1) (lookup test es)) ≡ []
    → rows_of_nodes (cond b es (e ∷ remove_entry test es)) ≡ e.1 ++ rows_of_nodes es) [
      | true ↦ λ h. sym (ap (λ rows. rows ++ rows_of_nodes es) h)
      | false ↦ λ h. ap (λ rows. e.1 ++ rows) (all-removed test es h)
    ] none

-- as many come as go
pub count-put : (test : Term → Bool) (es : Nodes) (gone rows : List ResultRow) → lookup test es ≡ Some gone
    → length (rows_of_nodes (set_value test es rows)) + length gone
    ≡ length (rows_of_nodes es) + length rows
count-put test [] gone rows held = cc
count-put test (e ∷ es) gone rows held =
    elim (test e.0) as
    (λ b. cond b (Some e.1) (lookup test es) ≡ Some gone
    → length (rows_of_nodes (cond b ((e.0, rows) ∷ es) (e ∷ set_value test es rows))) + length gone
    ≡ length (e.1 ++ rows_of_nodes es) + length rows) [
      | true ↦ λ h.
          let same : e.1 ≡ gone = cc in
          let long : length e.1 ≡ length gone = ap length same in
          let before = length-append e.1 (rows_of_nodes es) in
          let after = length-append rows (rows_of_nodes es) in
          omega arith
      | false ↦ λ h.
          let rest = count-put test es gone rows h in
          let before = length-append e.1 (rows_of_nodes es) in
          let after = length-append e.1 (rows_of_nodes (set_value test es rows)) in
          omega arith
    ] held

pub rows_in_within : (es : Nodes) (node : Term) → length (rows_in es node) ≤ length (rows_of_nodes es)
rows_in_within [] node = omega arith
rows_in_within (e ∷ es) node =
    let all = length-append e.1 (rows_of_nodes es) in
    elim (tied node e.0) as
    (λ b. length (rows_if_any (cond b (Some e.1) (place_of es node))) ≤ length (e.1 ++ rows_of_nodes es)) [
      | true ↦ omega arith
      | false ↦ let rest = rows_in_within es node in omega arith
    ]

-- ---- the results and the place of each node

module _ (old new : Nodes) (node : Term) where
  -- one has a place that had none
  module _ (rows : List ResultRow) (empty : rows ≡ []) (none : place_of old node ≡ None)
      (added : (other : Term) → place_of new other ≡ cond (tied node other) (Some rows) (place_of old other))
    where
      pub SameRowsIn-added : SameRowsIn old new
      SameRowsIn-added = record { each = λ other. by other (tied node other) refl }
        where
          by : (other : Term) (b : Bool) → tied node other ≡ b → rows_in new other ≡ rows_in old other
          by other true is =
              ap rows_if_any (added other)
              ∙ ap (λ b. rows_if_any (cond b (Some rows) (place_of old other))) is
              ∙ empty
              ∙ sym (ap rows_if_any none)
              ∙ ap (rows_in old) (same_term_exact node other is)
          by other false is =
              ap rows_if_any (added other)
              ∙ ap (λ b. rows_if_any (cond b (Some rows) (place_of old other))) is

      pub KeepPlaces-added : KeepPlaces old new
      KeepPlaces-added = record { each = λ other there. by other (tied node other) refl there }
        where
          by : (other : Term) (b : Bool) → tied node other ≡ b → IsSome (place_of old other)
              → IsSome (place_of new other)
          by other true is there = rw (added other, is) refl
          by other false is there = rw (added other, is) there

      pub SameOtherPlaces-added : SameOtherPlaces node old new
      SameOtherPlaces-added = record {
        each = λ other apart. added other ∙ ap (λ b. cond b (Some rows) (place_of old other)) apart;
      }

  -- one that has no results is taken out
  module _ (gone : (other : Term) → place_of new other ≡ cond (tied node other) None (place_of old other))
    where
      pub SameRowsIn-removed : rows_in old node ≡ [] → SameRowsIn old new
      SameRowsIn-removed none = record { each = λ other. by other (tied node other) refl }
        where
          by : (other : Term) (b : Bool) → tied node other ≡ b → rows_in new other ≡ rows_in old other
          by other true is =
              ap rows_if_any (gone other)
              ∙ ap (λ b. rows_if_any (cond b None (place_of old other))) is
              ∙ sym none
              ∙ ap (rows_in old) (same_term_exact node other is)
          by other false is =
              ap rows_if_any (gone other) ∙ ap (λ b. rows_if_any (cond b None (place_of old other))) is

      pub SameOtherPlaces-removed : SameOtherPlaces node old new
      SameOtherPlaces-removed = record {
        each = λ other apart. gone other ∙ ap (λ b. cond b None (place_of old other)) apart;
      }

      pub IsFilled-removed : IsFilled new node
      IsFilled-removed is =
          let none : place_of new node ≡ None =
          gone node ∙ ap (λ b. cond b None (place_of old node)) (same_term_itself node) in
          apart (sym none ∙ is)
        where
          apart : ◌≡◌ {A = Option (List ResultRow)} None (Some []) → ⊥
          apart e = cc

-- one that has results is filled
pub IsFilled-held : (nodes : Nodes) (node : Term) → (length (rows_in nodes node) == 0) ≡ false
    → IsFilled nodes node
IsFilled-held nodes node some is =
    true≢false (sym (ap (λ place. length (rows_if_any place) == 0) is) ∙ some)
