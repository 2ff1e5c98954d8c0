-- Alike shapes find alike, at however many levels: one induction.
use Rattle.std.specs.Prelude.{◌≡◌, ◌<◌, ℕ, zero, suc, List, Some, length, slice_get}
use Rattle.std.specs.Prelude.{Contains}
use Rattle.std.specs.Option.{option_and_then, unwrap_or}
use Rattle.std.proofs.Common.{sym, ap, ◌∙◌, subst, arith}
use Rattle.std.proofs.lemmas.Option.{slice_get_within}
use Rattle.shx_term.proofs.MemberLemmas.{Contains-flat_map}
use Rattle.graph_view.specs.Graph.{Graph}
use Rattle.comp_core.specs.Asking.{pair_of}
use Rattle.shape_eval.specs.declared.constraint.Constraint.{Constraint}
use Rattle.shape_eval.specs.declared.shape.PlanShape.{PlanShape}
use Rattle.shape_eval.specs.Constraint.{shapes_named}
use Rattle.shape_eval.specs.Content.{Demand, demand_of}
use Rattle.shape_eval.specs.Plan.{IsNumbered, names_of, nodes_of, number_of, references}
use Rattle.shape_eval.specs.Results.{reads_within, results_within, shape_reads, shape_results}
use Rattle.plan_swap.specs.Alike.{AreAlikeWithin, IsAlike}
use Rattle.plan_swap.specs.Renumbered.{new_number, rows_renumbered}
use Rattle.plan_swap.proofs.AskedLemmas.{AnswersAlike}
use Rattle.plan_swap.proofs.DemandLemmas.{named_by, nodes_in}
use Rattle.plan_swap.proofs.PlaceLemmas.{found_at, node_at, one_place}
use Rattle.plan_swap.proofs.ShapeLemmas.{DemandAlike, shape_reads_same, shape_renumbers}
use Rattle.plan_swap.proofs.TurnLemmas.{InTurn, in_turn}

module _ (old new : List PlanShape) where
  -- alike shapes are of one node
  pub one_node : (k m n : ℕ) → AreAlikeWithin k old new m n
      → slice_get (nodes_of old) m ≡ slice_get (nodes_of new) n
  one_node zero m n alike = absurd alike
  one_node (suc k) m n alike =
      node_at old m alike.before alike.old_is ∙ ap Some alike.same.node
      ∙ sym (node_at new n alike.after alike.new_is)

  pub node_of_new : (k m n : ℕ) → AreAlikeWithin k old new m n
      → (node : ℕ) × (slice_get (nodes_of new) n ≡ Some node)
  node_of_new zero m n alike = absurd alike
  node_of_new (suc k) m n alike = (alike.after.node, node_at new n alike.after alike.new_is)

  module _ (numbered : IsNumbered old) (renumbered : IsNumbered new) where
    -- what is of the node of the new shape is alike with it, where anything is
    pub alike_of_node : (k i m n : ℕ) → AreAlikeWithin k old new m n
        → slice_get (nodes_of old) i ≡ slice_get (nodes_of new) n → i ≡ m
    alike_of_node k i m n alike same =
        let at = node_of_new k m n alike in
        one_place (nodes_of old) numbered.distinct i m at.0 (same ∙ at.1) (one_node k m n alike ∙ at.1)

    -- the old shape has the number of the new one
    pub number_is : (k m n : ℕ) → AreAlikeWithin k old new m n → new_number old new m ≡ n
    number_is k m n alike =
        let at = node_of_new k m n alike in
        ap (λ node. unwrap_or (option_and_then (number_of new) node) 0) (one_node k m n alike ∙ at.1)
        ∙ ap (λ found. unwrap_or found 0) (found_at (nodes_of new) renumbered.distinct at.0 n at.1)

    named_of : (shapes : List PlanShape) (i : ℕ) (sh : PlanShape) → slice_get shapes i ≡ Some sh
        → (c : Constraint) → Contains sh.constraints.items c → (j : ℕ) → Contains (shapes_named c) j
        → Contains (references shapes i) j
    named_of shapes i sh e c held j named =
        subst (λ o. Contains (names_of o) j) (sym e)
        (Contains-flat_map shapes_named sh.constraints.items c j held named)

    -- the shapes that constraints of one demand name are alike in turn
    pub named_in_turn : (k m n : ℕ) (alike : IsAlike (AreAlikeWithin k old new) old new m n)
        (c d : Constraint) → Contains alike.before.constraints.items c
        → Contains alike.after.constraints.items d
        → demand_of (nodes_of old) c ≡ demand_of (nodes_of new) d
        → (P : ℕ → ℕ → Type 0) → ((a b : ℕ) → a < m → b < n → AreAlikeWithin k old new a b → P a b)
        → InTurn P (shapes_named c) (shapes_named d)
    named_in_turn k m n alike c d held there same P each =
        in_turn (slice_get (nodes_of old)) (slice_get (nodes_of new)) P (shapes_named c) (shapes_named d)
        (sym (named_by (nodes_of old) c) ∙ ap (λ (e : Demand). nodes_in e.content) same
        ∙ named_by (nodes_of new) d)
        (λ a b stated told one.
        let named = named_of new n alike.after alike.new_is d there b told in
        let found = alike.named b named in
        let here : a ≡ found.0 = alike_of_node k a found.0 b found.1 one in
        let stood = named_of old m alike.before alike.old_is c held a stated in
        each a b (numbered.refers.lower m a stood) (renumbered.refers.lower n b named)
        (subst (λ i. AreAlikeWithin k old new i b) (sym here) found.1))

    module _ (g : Graph) where
      abbrev AlikeAt : ℕ → ℕ → ℕ → ℕ → Type 0
      AlikeAt l j m n =
          AnswersAlike (new_number old new) (results_within l old g) (results_within j new g)
          (reads_within l old g) (reads_within j new g) m n

      -- constraints of alike shapes, where the shapes that they name answer alike
      pub demands_alike : (k l j m n : ℕ) (alike : IsAlike (AreAlikeWithin k old new) old new m n)
          → ((a b : ℕ) → a < m → b < n → AreAlikeWithin k old new a b → AlikeAt l j a b)
          → InTurn (DemandAlike (new_number old new) (results_within l old g) (results_within j new g)
          (reads_within l old g) (reads_within j new g) (nodes_of old) (nodes_of new))
          alike.before.constraints.items alike.after.constraints.items
      demands_alike k l j m n alike below =
          in_turn (demand_of (nodes_of old)) (demand_of (nodes_of new)) _ alike.before.constraints.items
          alike.after.constraints.items alike.same.demands (λ c d held there same. record {
            same = same;
            named = named_in_turn k m n alike c d held there same (AlikeAt l j) below;
          })

      pub finds_alike : (k l j m n : ℕ) → m < l → n < j → AreAlikeWithin k old new m n → AlikeAt l j m n
      finds_alike zero l j m n a b alike = absurd alike
      finds_alike (suc k) zero j m n a b alike = absurd (omega (arith, a))
      finds_alike (suc k) (suc l) zero m n a b alike = absurd (omega (arith, b))
      finds_alike (suc k) (suc l) (suc j) m n a b alike =
          let f = new_number old new in
          let older = results_within l old g in
          let newer = results_within j new g in
          let was = reads_within l old g in
          let now = reads_within j new g in
          let number = number_is (suc k) m n alike in
          let demands = demands_alike k l j m n alike (λ c d low lower.
          finds_alike k l j c d (omega (arith, low, a)) (omega (arith, lower, b))) in
          record {
            rows = λ node.
                ap (λ o. shape_results g newer o (pair_of node n)) alike.new_is
                ∙ shape_renumbers f older newer was now (nodes_of old) (nodes_of new) g alike.before
                alike.after alike.same demands m n node number
                ∙ ap (λ o. rows_renumbered f (shape_results g older o (pair_of node m))) (sym alike.old_is);
            reads = λ node.
                ap (λ o. shape_reads g now o (pair_of node n)) alike.new_is
                ∙ shape_reads_same f older newer was now (nodes_of old) (nodes_of new) g alike.before
                alike.after alike.same demands m n node number
                ∙ ap (λ o. shape_reads g was o (pair_of node m)) (sym alike.old_is);
          }

pub within_both : (old new : List PlanShape) (k m n : ℕ) → AreAlikeWithin k old new m n
    → (m < length old) × (n < length new)
within_both old new zero m n alike = absurd alike
within_both old new (suc k) m n alike =
    (slice_get_within old m alike.before alike.old_is, slice_get_within new n alike.after alike.new_is)
