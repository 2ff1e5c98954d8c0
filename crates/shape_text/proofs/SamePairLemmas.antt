-- Plans with the same shapes have the same pairs in the same order, but for the numbers of shapes.
use Rattle.std.specs.Prelude.{◌≡◌, ◌==◌, ◌&&◌, ℕ, nat_eq, not, List, Option, Some, None, filter, flat_map}
use Rattle.std.specs.Prelude.{length, map, slice_get, Contains}
use Rattle.std.specs.Cmp.{both_ways}
use Rattle.std.proofs.Common.{refl, sym, ap, ap₂, ◌∙◌, subst}
use Rattle.std.proofs.lemmas.Bool.{eq-eqb, eqb-true}
use Rattle.shx_term.specs.declared.term.Term.{Term}
use Rattle.shx_term.specs.IdOrder.{in_term_order}
use Rattle.shx_term.proofs.IdOrderLemmas.{in_term_order_same}
use Rattle.shx_term.proofs.MemberLemmas.{Contains-filter, Contains-from_filter, Contains-from_map}
use Rattle.shx_term.proofs.MemberLemmas.{Contains-map}
use Rattle.graph_view.specs.Graph.{Graph}
use Rattle.comp_core.specs.declared.pair.Pair.{Pair}
use Rattle.comp_core.specs.Pairs.{same_pair}
use Rattle.shape_eval.specs.declared.shape.PlanShape.{PlanShape}
use Rattle.shape_eval.specs.Plan.{Planned, if_any, is_targeted, nodes_of, number_of, numbers_of, planned}
use Rattle.shape_eval.specs.Plan.{targeted}
use Rattle.shape_eval.specs.Report.{at_shape, pairs}
use Rattle.shape_eval.specs.Targets.{nodes_of_targets, target_nodes, targets_of}
use Rattle.plan_swap.proofs.PlaceLemmas.{node_of_found, one_place}
use Rattle.plan_swap.proofs.TurnLemmas.{InTurn}
use Rattle.shape_compile.proofs.NumberLemmas.{none_not_found}
use Rattle.shape_compile.proofs.PlaceLemmas.{Contains-place}
use Rattle.shape_text.proofs.InTurnLemmas.{InTurn-both_parts, InTurn-images, InTurn-parts}
use Rattle.shape_text.proofs.SamePlaceLemmas.{AreSame, NumberOneShape, one_node, same_at}
use Rattle.shape_text.proofs.SameShapeLemmas.{HaveSameShapes, HaveSameShapes-sym}

module _ (old new : List PlanShape) where
  -- a pair of the one plan and one of the other: of one shape at one node
  pub record AreOnePair (p q : Pair) : Type 0 where
    pub shape : NumberOneShape old new p.shape q.shape
    pub node : p.node ≡ q.node

  module _ (same : HaveSameShapes old new) where
    -- ---- the targeted shapes

    targeted_node : (node : ℕ) → Contains (nodes_of (filter is_targeted old)) node
        → Contains (nodes_of (filter is_targeted new)) node
    targeted_node node held =
        let of = Contains-from_map (λ (sh : PlanShape). sh.node) (filter is_targeted old) node held in
        let before = Contains-from_filter is_targeted old of.0 of.1 in
        let named = (same.nodes.each node).0 (subst (Contains (nodes_of old)) (sym of.2)
        (Contains-map (λ (sh : PlanShape). sh.node) old of.0 before.0)) in
        let after = Contains-from_map (λ (sh : PlanShape). sh.node) new node named in
        let one = same.each of.0 after.0 before.0 after.1 (sym of.2 ∙ after.2) in
        let too = ap₂ (λ off targets. not off && not (nat_eq (length targets) 0))
        (sym one.shape.deactivated) (sym one.targets) ∙ before.1 in
        subst (Contains (nodes_of (filter is_targeted new))) (sym after.2)
        (Contains-map (λ (sh : PlanShape). sh.node) (filter is_targeted new) after.0
        (Contains-filter is_targeted new after.0 after.1 too))

    -- what is found of one node in both plans
    found_in_turn : (node : ℕ) (o u : Option ℕ) → number_of old node ≡ o → number_of new node ≡ u
        → InTurn (NumberOneShape old new) (if_any o) (if_any u)
    found_in_turn node None None is there = tt
    found_in_turn node None (Some n) is there =
        let held = Contains-place (nodes_of new) n node (node_of_found (nodes_of new) node n there) in
        absurd (none_not_found (nodes_of old) node ((same.nodes.each node).1 held) is)
    found_in_turn node (Some m) None is there =
        let held = Contains-place (nodes_of old) m node (node_of_found (nodes_of old) node m is) in
        absurd (none_not_found (nodes_of new) node ((same.nodes.each node).0 held) there)
    found_in_turn node (Some m) (Some n) is there = (
      record {
        node = node;
        old_at = node_of_found (nodes_of old) node m is;
        new_at = node_of_found (nodes_of new) node n there;
      },
      tt,
    )

    numbers_in_turn : (nodes : List ℕ)
        → InTurn (NumberOneShape old new) (numbers_of old nodes) (numbers_of new nodes)
    numbers_in_turn nodes =
        InTurn-both_parts (NumberOneShape old new) (λ node. if_any (number_of old node))
        (λ node. if_any (number_of new node))
        (λ node. found_in_turn node (number_of old node) (number_of new node) refl refl) nodes

    -- ---- their target nodes

    same_targets : (g : Graph) (o u : Option PlanShape) → AreSame old new o u
        → nodes_of_targets g (targets_of o) ≡ nodes_of_targets g (targets_of u)
    same_targets g None None shapes = refl
    same_targets g None (Some after) shapes = absurd shapes
    same_targets g (Some before) None shapes = absurd shapes
    same_targets g (Some before) (Some after) shapes = ap (nodes_of_targets g) shapes.targets

    module _ (g : Graph) where
      abbrev old_pairs : ℕ → List Pair
      old_pairs m = map (at_shape m) (target_nodes old g m)

      abbrev new_pairs : ℕ → List Pair
      new_pairs n = map (at_shape n) (target_nodes new g n)

      of_one_shape : (m n : ℕ) → NumberOneShape old new m n
          → InTurn AreOnePair (old_pairs m) (new_pairs n)
      of_one_shape m n one =
          let shapes = same_at old new same m n (one_node old new m n one) in
          subst (λ nodes. InTurn AreOnePair (old_pairs m) (map (at_shape n) nodes))
          (same_targets g (slice_get old m) (slice_get new n) shapes)
          (InTurn-images AreOnePair (at_shape m) (at_shape n) (target_nodes old g m)
          (λ node. record { shape = one; node = refl }))

      target_pairs : (ms ns : List ℕ) → InTurn (NumberOneShape old new) ms ns
          → InTurn AreOnePair (flat_map old_pairs ms) (flat_map new_pairs ns)
      target_pairs = InTurn-parts AreOnePair old_pairs new_pairs (NumberOneShape old new) of_one_shape

    -- ---- which pairs are the same

    same_shape : (a b m n : ℕ) → NumberOneShape old new a m → NumberOneShape old new b n
        → (a == b) ≡ (m == n)
    same_shape a b m n first second =
        both_ways (a == b) (m == n)
        (λ h.
        let node : Some first.node ≡ Some second.node =
        sym first.old_at ∙ ap (slice_get (nodes_of old)) (eqb-true a b h) ∙ second.old_at in
        eq-eqb m n
        (one_place (nodes_of new) same.new_once m n first.node first.new_at (second.new_at ∙ sym node)))
        (λ h.
        let node : Some first.node ≡ Some second.node =
        sym first.new_at ∙ ap (slice_get (nodes_of new)) (eqb-true m n h) ∙ second.new_at in
        eq-eqb a b
        (one_place (nodes_of old) same.old_once a b first.node first.old_at (second.old_at ∙ sym node)))

    pub same_pairs : (p q r s : Pair) → AreOnePair p r → AreOnePair q s → same_pair p q ≡ same_pair r s
    same_pairs p q r s first second =
        ap₂ ◌&&◌ (same_shape p.shape q.shape r.shape s.shape first.shape second.shape)
        (ap₂ ◌==◌ first.node second.node)

-- ---- the pairs of two plans

targeted_in_turn : (terms : List Term) (old new : List PlanShape) → HaveSameShapes old new
    → InTurn (NumberOneShape old new) (targeted terms old) (targeted terms new)
targeted_in_turn terms old new same =
    subst (λ nodes. InTurn (NumberOneShape old new) (targeted terms old) (numbers_of new nodes))
    (in_term_order_same terms (nodes_of (filter is_targeted old)) (nodes_of (filter is_targeted new))
    (λ node.
    (targeted_node old new same node, targeted_node new old (HaveSameShapes-sym old new same) node)))
    (numbers_in_turn old new same (in_term_order terms (nodes_of (filter is_targeted old))))

pub pairs_in_turn : (terms : List Term) (p q : Planned) → HaveSameShapes p.shapes q.shapes
    → p ≡ planned terms p.shapes → q ≡ planned terms q.shapes → (g : Graph)
    → InTurn (AreOnePair p.shapes q.shapes) (pairs p g) (pairs q g)
pairs_in_turn terms p q same first second g =
    target_pairs p.shapes q.shapes same g p.targeted q.targeted
    (subst (λ ms. InTurn (NumberOneShape p.shapes q.shapes) ms q.targeted)
    (sym (ap (λ (plan : Planned). plan.targeted) first))
    (subst (InTurn (NumberOneShape p.shapes q.shapes) (targeted terms p.shapes))
    (sym (ap (λ (plan : Planned). plan.targeted) second))
    (targeted_in_turn terms p.shapes q.shapes same)))
