-- In a pair of plans with the same shapes the same pairs are nested, but for the numbers of shapes.
use Rattle.std.specs.Prelude.{◌≡◌, ℕ, zero, suc, Bool, true, false, not, List, [], ◌∷◌, Option, Some, None}
use Rattle.std.specs.Prelude.{flat_map, length, map, slice_get, if◌then◌else◌}
use Rattle.std.proofs.Common.{refl, sym, ap, ◌∙◌, subst, true≢false}
use Rattle.graph_view.specs.Graph.{Graph}
use Rattle.comp_core.specs.declared.pair.Pair.{Pair}
use Rattle.comp_core.specs.Asking.{pair_of, pairs_asked, pairs_at}
use Rattle.shape_eval.specs.declared.constraint.Constraint.{Constraint}
use Rattle.shape_eval.specs.declared.shape.PlanShape.{PlanShape}
use Rattle.shape_eval.specs.Constraint.{constraint_asks, shapes_named}
use Rattle.shape_eval.specs.Content.{demand_of}
use Rattle.shape_eval.specs.Nested.{asked_at_node, asked_pairs, is_evaluated, is_evaluated_at, nested_in}
use Rattle.shape_eval.specs.Nested.{nested_within, pairs_below}
use Rattle.shape_eval.specs.Plan.{nodes_of}
use Rattle.shape_eval.specs.Results.{value_nodes}
use Rattle.plan_swap.proofs.DemandLemmas.{asked_by}
use Rattle.plan_swap.proofs.PlaceLemmas.{node_at}
use Rattle.plan_swap.proofs.ShapeLemmas.{values_same}
use Rattle.plan_swap.proofs.TurnLemmas.{InTurn, in_turn}
use Rattle.shape_text.proofs.InTurnLemmas.{InTurn-both_parts, InTurn-filter, InTurn-parts, KeepAlike}
use Rattle.shape_text.proofs.SamePairLemmas.{AreOnePair}
use Rattle.shape_text.proofs.SamePlaceLemmas.{AreOfOneNode, AreSame, one_node, same_at}
use Rattle.shape_text.proofs.SameResultLemmas.{named_in_turn, same_length}
use Rattle.shape_text.proofs.SameShapeLemmas.{HaveSameShapes}

module _ (old new : List PlanShape) (same : HaveSameShapes old new) where
  -- ---- what they ask

  -- pairs at shapes of one node are evaluated or not, and where they are, they are one pair
  abbrev Evaluated : Pair → Pair → Type 0
  Evaluated = KeepAlike (AreOnePair old new) (is_evaluated_at old) (is_evaluated_at new)

  evaluated_by : (v a b : ℕ) → AreOfOneNode old new a b → (o u : Option PlanShape) → slice_get old a ≡ o
      → slice_get new b ≡ u → AreSame old new o u → Evaluated (pair_of v a) (pair_of v b)
  evaluated_by v a b one None None is there shapes = record {
    agree = ap is_evaluated is ∙ sym (ap is_evaluated there);
    kept = λ on. absurd (true≢false (sym on ∙ ap is_evaluated is));
  }
  evaluated_by v a b one None (Some after) is there shapes = absurd shapes
  evaluated_by v a b one (Some before) None is there shapes = absurd shapes
  evaluated_by v a b one (Some before) (Some after) is there shapes =
      let at = node_at old a before is in
      record {
        agree = ap is_evaluated is ∙ ap not shapes.shape.deactivated ∙ sym (ap is_evaluated there);
        kept = λ on. record {
          shape = record { node = before.node; old_at = at; new_at = sym one ∙ at };
          node = refl;
        };
      }

  evaluated : (v a b : ℕ) → AreOfOneNode old new a b → Evaluated (pair_of v a) (pair_of v b)
  evaluated v a b one =
      evaluated_by v a b one (slice_get old a) (slice_get new b) refl refl (same_at old new same a b one)

  -- a node at shapes of one node in turn
  at_in_turn : (v : ℕ) (is js : List ℕ) → InTurn (AreOfOneNode old new) is js
      → InTurn Evaluated (pairs_at is v) (pairs_at js v)
  at_in_turn v [] [] each = tt
  at_in_turn v [] (j ∷ js) each = absurd each
  at_in_turn v (i ∷ is) [] each = absurd each
  at_in_turn v (i ∷ is) (j ∷ js) each = (evaluated v i j each.0, at_in_turn v is js each.1)

  abbrev AreOfOneDemand : Constraint → Constraint → Type 0
  AreOfOneDemand c d = demand_of (nodes_of old) c ≡ demand_of (nodes_of new) d

  asked_in_turn : (vs : List ℕ) (c d : Constraint) → AreOfOneDemand c d
      → InTurn Evaluated (constraint_asks c vs) (constraint_asks d vs)
  asked_in_turn vs c d one =
      let named = named_in_turn old new c d one (AreOfOneNode old new) (λ a b same. same) in
      subst (λ ps. InTurn Evaluated ps (constraint_asks d vs)) (sym (asked_by c vs))
      (subst (InTurn Evaluated (pairs_asked (shapes_named c) vs)) (sym (asked_by d vs))
      (InTurn-both_parts Evaluated (pairs_at (shapes_named c)) (pairs_at (shapes_named d))
      (λ v. at_in_turn v (shapes_named c) (shapes_named d) named) vs))

  all_asked_in_turn : (vs : List ℕ) (cs ds : List Constraint)
      → map (demand_of (nodes_of old)) cs ≡ map (demand_of (nodes_of new)) ds
      → InTurn Evaluated (asked_pairs cs vs) (asked_pairs ds vs)
  all_asked_in_turn vs cs ds one =
      InTurn-parts Evaluated (λ c. constraint_asks c vs) (λ d. constraint_asks d vs) AreOfOneDemand
      (asked_in_turn vs) cs ds
      (in_turn (demand_of (nodes_of old)) (demand_of (nodes_of new)) AreOfOneDemand cs ds one
      (λ c d held there same. same))

  module _ (g : Graph) where
    asked_there : (o u : Option PlanShape) → AreSame old new o u → (node : ℕ)
        → InTurn Evaluated (asked_at_node g o node) (asked_at_node g u node)
    asked_there None None shapes node = tt
    asked_there None (Some after) shapes node = absurd shapes
    asked_there (Some before) None shapes node = absurd shapes
    asked_there (Some before) (Some after) shapes node =
        let cs = before.constraints.items in
        let ds = after.constraints.items in
        let vs = value_nodes g before.path node in
        let asked = all_asked_in_turn vs cs ds shapes.shape.demands in
        subst (λ off. InTurn Evaluated (asked_at_node g (Some before) node)
        (if off then [] else asked_pairs ds (value_nodes g after.path node))) shapes.shape.deactivated
        (subst
        (λ ws. InTurn Evaluated (asked_at_node g (Some before) node)
        (if before.deactivated then [] else asked_pairs ds ws))
        (sym (values_same g before.path after.path shapes.shape.path node))
        (unless_off before.deactivated (asked_pairs cs vs) (asked_pairs ds vs) asked))
      where
        unless_off : (off : Bool) (ps qs : List Pair) → InTurn Evaluated ps qs
            → InTurn Evaluated (if off then [] else ps) (if off then [] else qs)
        unless_off true ps qs each = tt
        unless_off false ps qs each = each

    -- the pairs right below
    below_in_turn : (p q : Pair) → AreOnePair old new p q
        → InTurn (AreOnePair old new) (pairs_below old g p) (pairs_below new g q)
    below_in_turn p q one =
        InTurn-filter (AreOnePair old new) (is_evaluated_at old) (is_evaluated_at new)
        (asked_at_node g (slice_get old p.shape) p.node) (asked_at_node g (slice_get new q.shape) q.node)
        (subst (λ node. InTurn Evaluated (asked_at_node g (slice_get old p.shape) p.node)
        (asked_at_node g (slice_get new q.shape) node)) one.node
        (asked_there (slice_get old p.shape) (slice_get new q.shape)
        (same_at old new same p.shape q.shape (one_node old new p.shape q.shape one.shape)) p.node))

    -- ---- nested pairs

    within_in_turn : (k : ℕ) (p q : Pair) → AreOnePair old new p q
        → InTurn (AreOnePair old new) (nested_within k old g p) (nested_within k new g q)
    within_in_turn zero p q one = tt
    within_in_turn (suc k) p q one =
        InTurn-parts (AreOnePair old new) (λ d. d ∷ nested_within k old g d)
        (λ e. e ∷ nested_within k new g e) (AreOnePair old new)
        (λ d e same. (same, within_in_turn k d e same)) (pairs_below old g p) (pairs_below new g q)
        (below_in_turn p q one)

    nested_in_turn : (p q : Pair) → AreOnePair old new p q
        → InTurn (AreOnePair old new) (nested_in old g p) (nested_in new g q)
    nested_in_turn p q one =
        subst (λ k. InTurn (AreOnePair old new) (nested_in old g p) (nested_within k new g q))
        (same_length old new same) (within_in_turn (length old) p q one)

    pub all_nested_in_turn : (ps qs : List Pair) → InTurn (AreOnePair old new) ps qs
        → InTurn (AreOnePair old new) (flat_map (nested_in old g) ps) (flat_map (nested_in new g) qs)
    all_nested_in_turn =
        InTurn-parts (AreOnePair old new) (nested_in old g) (nested_in new g) (AreOnePair old new)
        nested_in_turn
