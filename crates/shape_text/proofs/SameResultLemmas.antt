-- Plans with the same shapes find the same at each node, but for the numbers of shapes: one induction over
-- levels, in both plans the same.
use Rattle.std.specs.Prelude.{◌≡◌, ℕ, zero, suc, nat_eq, List, Option, Some, None, length, slice_get}
use Rattle.std.specs.Cmp.{both_ways, nat_eq_equiv}
use Rattle.std.specs.List.{list_any}
use Rattle.std.proofs.Common.{refl, sym, ap, ◌∙◌}
use Rattle.std.proofs.lemmas.Bool.{eqb-true}
use Rattle.std.proofs.lemmas.List.{length-map}
use Rattle.std.proofs.lemmas.Map.Made.{length-from_same_keys}
use Rattle.shx_term.proofs.MemberLemmas.{Contains-test}
use Rattle.graph_view.specs.Graph.{Graph}
use Rattle.comp_core.specs.Asking.{pair_of}
use Rattle.shape_eval.specs.declared.constraint.Constraint.{Constraint}
use Rattle.shape_eval.specs.declared.shape.PlanShape.{PlanShape}
use Rattle.shape_eval.specs.Constraint.{shapes_named}
use Rattle.shape_eval.specs.Content.{Demand, demand_of}
use Rattle.shape_eval.specs.Plan.{nodes_of}
use Rattle.shape_eval.specs.Results.{reads_within, results, results_within, shape_reads, shape_results}
use Rattle.plan_swap.specs.Alike.{IsSameShape}
use Rattle.plan_swap.specs.Renumbered.{new_number, rows_renumbered}
use Rattle.plan_swap.proofs.AskedLemmas.{AnswersAlike}
use Rattle.plan_swap.proofs.DemandLemmas.{named_by, nodes_in}
use Rattle.plan_swap.proofs.PlaceLemmas.{node_at}
use Rattle.plan_swap.proofs.ShapeLemmas.{DemandAlike, shape_reads_same, shape_renumbers}
use Rattle.plan_swap.proofs.TurnLemmas.{InTurn, in_turn}
use Rattle.shape_text.proofs.SamePlaceLemmas.{AreOfOneNode, AreSame, number_is, same_at}
use Rattle.shape_text.proofs.SameShapeLemmas.{HaveSameShapes}

-- the shapes that constraints of one demand name are of one node in turn
pub named_in_turn : (old new : List PlanShape) (c d : Constraint)
    → demand_of (nodes_of old) c ≡ demand_of (nodes_of new) d → (P : ℕ → ℕ → Type 0)
    → ((a b : ℕ) → AreOfOneNode old new a b → P a b) → InTurn P (shapes_named c) (shapes_named d)
named_in_turn old new c d same P each =
    in_turn (slice_get (nodes_of old)) (slice_get (nodes_of new)) P (shapes_named c) (shapes_named d)
    (sym (named_by (nodes_of old) c) ∙ ap (λ (e : Demand). nodes_in e.content) same
    ∙ named_by (nodes_of new) d)
    (λ a b stated told one. each a b one)

module _ (old new : List PlanShape) (same : HaveSameShapes old new) (g : Graph) where
  abbrev AlikeAt : ℕ → ℕ → ℕ → Type 0
  AlikeAt k m n =
      AnswersAlike (new_number old new) (results_within k old g) (results_within k new g)
      (reads_within k old g) (reads_within k new g) m n

  -- constraints of a shape, where shapes of one node answer alike
  demands_alike : (k : ℕ) → ((a b : ℕ) → AreOfOneNode old new a b → AlikeAt k a b)
      → (before after : PlanShape) → IsSameShape (nodes_of old) (nodes_of new) before after
      → InTurn (DemandAlike (new_number old new) (results_within k old g) (results_within k new g)
      (reads_within k old g) (reads_within k new g) (nodes_of old) (nodes_of new))
      before.constraints.items after.constraints.items
  demands_alike k below before after shape =
      in_turn (demand_of (nodes_of old)) (demand_of (nodes_of new)) _ before.constraints.items
      after.constraints.items shape.demands (λ c d held there one. record {
        same = one;
        named = named_in_turn old new c d one (AlikeAt k) below;
      })

  -- one level more
  higher : (k : ℕ) → ((a b : ℕ) → AreOfOneNode old new a b → AlikeAt k a b) → (m n : ℕ)
      → AreOfOneNode old new m n → (o u : Option PlanShape) → slice_get old m ≡ o → slice_get new n ≡ u
      → AreSame old new o u → AlikeAt (suc k) m n
  higher k below m n one None None is there shapes =
      let older = results_within k old g in
      let newer = results_within k new g in
      let was = reads_within k old g in
      let now = reads_within k new g in
      record {
        rows = λ node.
            ap (λ o. shape_results g newer o (pair_of node n)) there
            ∙ ap (λ o. rows_renumbered (new_number old new) (shape_results g older o (pair_of node m)))
            (sym is);
        reads = λ node.
            ap (λ o. shape_reads g now o (pair_of node n)) there
            ∙ ap (λ o. shape_reads g was o (pair_of node m)) (sym is);
      }
  higher k below m n one None (Some after) is there shapes = absurd shapes
  higher k below m n one (Some before) None is there shapes = absurd shapes
  higher k below m n one (Some before) (Some after) is there shapes =
      let f = new_number old new in
      let older = results_within k old g in
      let newer = results_within k new g in
      let was = reads_within k old g in
      let now = reads_within k new g in
      let at : slice_get (nodes_of old) m ≡ Some before.node = node_at old m before is in
      let number : f m ≡ n = number_is old new same m n before.node at (sym one ∙ at) in
      let demands = demands_alike k below before after shapes.shape in
      record {
        rows = λ node.
            ap (λ o. shape_results g newer o (pair_of node n)) there
            ∙ shape_renumbers f older newer was now (nodes_of old) (nodes_of new) g before after
            shapes.shape demands m n node number
            ∙ ap (λ o. rows_renumbered f (shape_results g older o (pair_of node m))) (sym is);
        reads = λ node.
            ap (λ o. shape_reads g now o (pair_of node n)) there
            ∙ shape_reads_same f older newer was now (nodes_of old) (nodes_of new) g before after
            shapes.shape demands m n node number
            ∙ ap (λ o. shape_reads g was o (pair_of node m)) (sym is);
      }

  finds_alike : (k m n : ℕ) → AreOfOneNode old new m n → AlikeAt k m n
  finds_alike zero m n one = record { rows = λ node. refl; reads = λ node. refl }
  finds_alike (suc k) m n one =
      higher k (finds_alike k) m n one (slice_get old m) (slice_get new n) refl refl
      (same_at old new same m n one)

-- there are as many
pub same_length : (old new : List PlanShape) → HaveSameShapes old new → length old ≡ length new
same_length old new same =
    sym (length-map old (λ (sh : PlanShape). sh.node))
    ∙ length-from_same_keys nat_eq_equiv (nodes_of old) (nodes_of new) same.old_once same.new_once (λ node.
    let one = Contains-test nat_eq nat_eq_equiv eqb-true (nodes_of old) node in
    let other = Contains-test nat_eq nat_eq_equiv eqb-true (nodes_of new) node in
    both_ways (list_any (nat_eq node) (nodes_of old)) (list_any (nat_eq node) (nodes_of new))
    (λ h. other.1 ((same.nodes.each node).0 (one.0 h)))
    (λ h. one.1 ((same.nodes.each node).1 (other.0 h))))
    ∙ length-map new (λ (sh : PlanShape). sh.node)

pub same_results : (old new : List PlanShape) → HaveSameShapes old new → (g : Graph) (m n : ℕ)
    → AreOfOneNode old new m n → (node : ℕ)
    → results new g (pair_of node n) ≡ rows_renumbered (new_number old new) (results old g (pair_of node m))
same_results old new same g m n one node =
    ap (λ k. results_within k new g (pair_of node n)) (sym (same_length old new same))
    ∙ (finds_alike old new same g (length old) m n one).rows node
