-- The numbers of one shape in two plans that have the same shapes.
use Rattle.std.specs.Prelude.{◌≡◌, ℕ, List, Option, Some, None, Contains, slice_get}
use Rattle.std.specs.Option.{option_and_then, option_map, unwrap_or}
use Rattle.std.proofs.Common.{refl, sym, ap, ◌∙◌}
use Rattle.std.proofs.lemmas.Option.{slice_get-get_or, slice_get-map}
use Rattle.shape_eval.specs.declared.shape.PlanShape.{PlanShape}
use Rattle.shape_eval.specs.Plan.{nodes_of, number_of}
use Rattle.shape_compile.proofs.PlaceLemmas.{Contains-place}
use Rattle.plan_swap.specs.Renumbered.{new_number}
use Rattle.plan_swap.proofs.PlaceLemmas.{found_at}
use Rattle.shape_text.proofs.SameShapeLemmas.{HaveSameShapes, HaveSameShapes-sym, IsSameTargeted}

place_of : (nodes : List ℕ) (node : ℕ) → Contains nodes node → (n : ℕ) × (slice_get nodes n ≡ Some node)
place_of nodes node held = (held.0, slice_get-get_or nodes held.0 node held.1 ∙ ap Some held.2)

module _ (old new : List PlanShape) where
  -- both are numbers of shapes of one node, or both are numbers of none
  abbrev pub AreOfOneNode : ℕ → ℕ → Type 0
  AreOfOneNode m n = slice_get (nodes_of old) m ≡ slice_get (nodes_of new) n

  -- both are numbers of one shape
  pub record NumberOneShape (m n : ℕ) : Type 0 where
    pub node : ℕ
    pub old_at : slice_get (nodes_of old) m ≡ Some node
    pub new_at : slice_get (nodes_of new) n ≡ Some node

  pub one_node : (m n : ℕ) → NumberOneShape m n → AreOfOneNode m n
  one_node m n one = one.old_at ∙ sym one.new_at

  -- the same shape, or none
  abbrev pub AreSame : Option PlanShape → Option PlanShape → Type 0
  AreSame None None = Unit {0}
  AreSame None (Some after) = ⊥
  AreSame (Some before) None = ⊥
  AreSame (Some before) (Some after) = IsSameTargeted (nodes_of old) (nodes_of new) before after

  node_there : (shapes : List PlanShape) (m : ℕ) (o : Option PlanShape) → slice_get shapes m ≡ o
      → slice_get (nodes_of shapes) m ≡ option_map (λ (sh : PlanShape). sh.node) o
  node_there shapes m o is =
      slice_get-map (λ (sh : PlanShape). sh.node) shapes m ∙ ap (option_map (λ (sh : PlanShape). sh.node)) is

  module _ (same : HaveSameShapes old new) where
    same_by : (m n : ℕ) → AreOfOneNode m n → (o u : Option PlanShape) → slice_get old m ≡ o
        → slice_get new n ≡ u → AreSame o u
    same_by m n one None None is there = tt
    same_by m n one None (Some after) is there =
        let both = sym (node_there old m None is) ∙ one ∙ node_there new n (Some after) there in
        absurd (cc)
    same_by m n one (Some before) None is there =
        let both = sym (node_there old m (Some before) is) ∙ one ∙ node_there new n None there in
        absurd (cc)
    same_by m n one (Some before) (Some after) is there =
        let both : Some before.node ≡ Some after.node =
        sym (node_there old m (Some before) is) ∙ one ∙ node_there new n (Some after) there in
        same.each before after (Contains-place old m before is) (Contains-place new n after there) (cc)

    -- what stands at numbers of one node is the same shape
    pub same_at : (m n : ℕ) → AreOfOneNode m n → AreSame (slice_get old m) (slice_get new n)
    same_at m n one = same_by m n one (slice_get old m) (slice_get new n) refl refl

    -- the new number is that of the same shape
    pub number_is : (m n node : ℕ) → slice_get (nodes_of old) m ≡ Some node
        → slice_get (nodes_of new) n ≡ Some node → new_number old new m ≡ n
    number_is m n node at there =
        ap (λ o. unwrap_or (option_and_then (number_of new) o) 0) at
        ∙ ap (λ found. unwrap_or found 0) (found_at (nodes_of new) same.new_once node n there)

    new_place : (m node : ℕ) → slice_get (nodes_of old) m ≡ Some node
        → slice_get (nodes_of new) (new_number old new m) ≡ Some node
    new_place m node at =
        let there = place_of (nodes_of new) node
        ((same.nodes.each node).0 (Contains-place (nodes_of old) m node at)) in
        ap (slice_get (nodes_of new)) (number_is m there.0 node at there.1) ∙ there.1

-- a number to which the way to the other plan and back leads is of the same node there
pub back_is_there : (old new : List PlanShape) → HaveSameShapes old new → (i : ℕ)
    → i ≡ new_number new old (new_number old new i) → AreOfOneNode old new i (new_number old new i)
back_is_there old new same i back =
    by (slice_get (nodes_of old) i) refl (slice_get (nodes_of new) 0) refl
  where
    by : (o : Option ℕ) → slice_get (nodes_of old) i ≡ o → (u : Option ℕ) → slice_get (nodes_of new) 0 ≡ u
        → AreOfOneNode old new i (new_number old new i)
    by (Some node) at u there = at ∙ sym (new_place old new same i node at)
    by None at None there =
        let number : new_number old new i ≡ 0 =
        ap (λ o. unwrap_or (option_and_then (number_of new) o) 0) at in
        at ∙ sym (ap (slice_get (nodes_of new)) number ∙ there)
    by None at (Some node) there =
        let number : new_number old new i ≡ 0 =
        ap (λ o. unwrap_or (option_and_then (number_of new) o) 0) at in
        let here : slice_get (nodes_of old) i ≡ Some node =
        ap (slice_get (nodes_of old)) (back ∙ ap (new_number new old) number)
        ∙ new_place new old (HaveSameShapes-sym old new same) 0 node there in
        absurd (cc)
