-- What is to come, as one turns to the next node or the next shape.
use Rattle.std.specs.Prelude.{◌≡◌, ℕ, ◌<◌, List, [], ◌∷◌, ◌++◌, Option, Some, flat_map, length}
use Rattle.std.specs.Prelude.{All}
use Rattle.std.specs.Map.{values_of}
use Rattle.std.proofs.Common.{sym, ap, ◌∙◌, subst, arith, get_or}
use Rattle.std.proofs.lemmas.List.Folds.{flat_map-map}
use Rattle.std.proofs.lemmas.Map.Entries.{length-values_of}
use Rattle.std.proofs.lemmas.Option.{slice_get-get_or}
use Rattle.shx_term.proofs.MemberLemmas.{All_head, All_tail}
use Rattle.comp_core.specs.declared.row.ResultRow.{ResultRow}
use Rattle.pair_results.specs.PairResults.{rows_of_nodes}
use Rattle.pair_results.specs.inner.ToCome.{entries_if_any, left_of, nodes_at, to_come, turns_left}
use Rattle.pair_results.specs.declared.rows.Ahead.{Ahead}
use Rattle.pair_results.proofs.ShapeLemmas.{Tree, Trees}

-- the shape at hand has none left, and all else is as it was
pub record HasNoneLeft (old new : Ahead) : Type 0 where
  pub all : new.all ≡ old.all
  pub shapes : new.shapes ≡ old.shapes
  pub rows : new.rows ≡ old.rows
  pub none : left_of old.nodes ≡ []

pub HasNoneLeft-only : (old new : Ahead) (nodes : Option (List (List ResultRow)))
    → new ≡ record { all = old.all; shapes = old.shapes; nodes = nodes; rows = old.rows }
    → left_of old.nodes ≡ [] → HasNoneLeft old new
HasNoneLeft-only old new nodes is none = record {
  all = λ i. (is i).all;
  shapes = λ i. (is i).shapes;
  rows = λ i. (is i).rows;
  none = none;
}

-- the nodes of the next shape come then
module _ (all : Trees) (shape : ℕ) (others : List ℕ) (nodes : Option (List (List ResultRow)))
    (none : left_of nodes ≡ []) (values : List (List ResultRow))
    (are : values ≡ values_of (nodes_at all shape))
  where
    same_to_come : (rows : List ResultRow)
        → to_come all others (Some values) rows ≡ to_come all (shape ∷ others) nodes rows
    same_to_come rows =
        let behind = flat_map (λ n. rows_of_nodes (nodes_at all n)) others in
        let here = rows_of_nodes (nodes_at all shape) in
        ap (λ lists. rows ++ (flat_map (λ rs. rs) lists ++ behind)) are
        ∙ ap (λ list. rows ++ (list ++ behind)) (flat_map-map (λ rs. rs) (λ e. e.1) (nodes_at all shape))
        ∙ ap (λ lists. rows ++ (flat_map (λ rs. rs) lists ++ (here ++ behind))) (sym none)

    fewer_turns : turns_left all others (Some values) < turns_left all (shape ∷ others) nodes
    fewer_turns =
        let long : length values ≡ length (nodes_at all shape) =
        ap length are ∙ length-values_of (nodes_at all shape) in
        omega arith

module _ (old new : Ahead) (left : HasNoneLeft old new) (shape : ℕ) (others : List ℕ)
    (shapes : new.shapes.now ≡ shape ∷ others)
    (within : All (λ n. n < length old.all.now) old.shapes.now)
    (values : List (List ResultRow)) (tree : Tree)
    (are : values ≡ values_of (get_or new.all.now shape tree).entries)
  where
    was : old.shapes.now ≡ shape ∷ others
    was = sym (λ i. (left.shapes i).now) ∙ shapes

    all_within : All (λ n. n < length new.all.now) (shape ∷ others)
    all_within =
        subst (λ all. All (λ n. n < length all) (shape ∷ others)) (sym (λ i. (left.all i).now))
        (subst (All (λ n. n < length old.all.now)) was within)

    pub within-next_shape : All (λ n. n < length new.all.now) others
    within-next_shape = All_tail (λ n. n < length new.all.now) shape others all_within

    are_here : values ≡ values_of (nodes_at new.all.now shape)
    are_here =
        are
        ∙ sym (ap (λ o. values_of (entries_if_any o))
        (slice_get-get_or new.all.now shape tree
        (All_head (λ n. n < length new.all.now) shape others all_within)))

    pub to_come-next_shape : to_come new.all.now others (Some values) new.rows.now
        ≡ to_come old.all.now old.shapes.now old.nodes old.rows.now
    to_come-next_shape =
        same_to_come new.all.now shape others old.nodes left.none values are_here new.rows.now
        ∙ (λ i. to_come (left.all i).now (sym was i) old.nodes (left.rows i).now)

    pub turns_left-next_shape : turns_left new.all.now others (Some values)
        < turns_left old.all.now old.shapes.now old.nodes
    turns_left-next_shape =
        subst (λ n. turns_left new.all.now others (Some values) < n)
        (λ i. turns_left (left.all i).now (sym was i) old.nodes)
        (fewer_turns new.all.now shape others old.nodes left.none values are_here)
