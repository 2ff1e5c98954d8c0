-- The places of nodes where each stands once.
use Rattle.std.specs.Prelude.{◌≡◌, ◌<◌, ℕ, nat_eq, Bool, true, List, Some, get_or, length, position}
use Rattle.std.specs.Prelude.{slice_get}
use Rattle.std.specs.Cmp.{nat_eq_equiv}
use Rattle.std.specs.List.{IsDistinct, position_or_len}
use Rattle.std.specs.Option.{option_map}
use Rattle.std.proofs.Common.{refl, sym, ap, ◌∙◌, arith, inl, inr, lt-ltb}
use Rattle.std.proofs.lemmas.Bool.{cases_lt, eqb-true}
use Rattle.std.proofs.lemmas.Bool.Decides.{Decides-eqb}
use Rattle.std.proofs.lemmas.List.Quantifiers.{position-Some}
use Rattle.std.proofs.lemmas.Map.Keys.{any_passes_from_place}
use Rattle.std.proofs.lemmas.Map.Made.{AllPairs-from_IsDistinct}
use Rattle.std.proofs.lemmas.Option.{get_or_from_slice_get, slice_get-get_or, slice_get-map, slice_get_within}
use Rattle.shx_term.proofs.HeldLemmas.{place_of_any}
use Rattle.shape_eval.specs.declared.shape.PlanShape.{PlanShape}
use Rattle.shape_eval.specs.Plan.{nodes_of}

-- where what stands at a place passes a test, a place is found
pub found_somewhere : {X : Type 0} (p : X → Bool) (xs : List X) (i : ℕ) (x : X) → slice_get xs i ≡ Some x
    → p x ≡ true → position p xs ≡ Some (position_or_len p xs)
found_somewhere p xs i x at passes =
    rw (lt-ltb _ (length xs) (place_of_any p xs (any_passes_from_place p xs i x at passes))) refl

pub node_at : (shapes : List PlanShape) (i : ℕ) (sh : PlanShape) → slice_get shapes i ≡ Some sh
    → slice_get (nodes_of shapes) i ≡ Some sh.node
node_at shapes i sh e =
    slice_get-map (λ (s : PlanShape). s.node) shapes i ∙ ap (option_map (λ (s : PlanShape). s.node)) e

module _ (nodes : List ℕ) where
  pub node_of_found : (node i : ℕ) → position (nat_eq node) nodes ≡ Some i → slice_get nodes i ≡ Some node
  node_of_found node i found =
      let at = position-Some (nat_eq node) nodes i 0 found in
      slice_get-get_or nodes i 0 at.0 ∙ ap Some (sym (eqb-true node (get_or nodes i 0) at.1))

  pub first_place : (node i : ℕ) → slice_get nodes i ≡ Some node
      → position (nat_eq node) nodes ≡ Some (position_or_len (nat_eq node) nodes)
  first_place node i at = found_somewhere (nat_eq node) nodes i node at (nat_eq_equiv.refl node)

  module _ (once : IsDistinct nat_eq nodes) where
    apart : (i j node : ℕ) → i < j → slice_get nodes i ≡ Some node → slice_get nodes j ≡ Some node → ⊥
    apart i j node below at there =
        AllPairs-from_IsDistinct Decides-eqb nodes once i j node below (slice_get_within nodes j node there)
        (get_or_from_slice_get nodes i node node at ∙ sym (get_or_from_slice_get nodes j node node there))

    -- a node stands at one place
    pub one_place : (i j node : ℕ) → slice_get nodes i ≡ Some node → slice_get nodes j ≡ Some node → i ≡ j
    one_place i j node at there = elim (cases_lt i j) [
      | inl below ↦ absurd (apart i j node below at there)
      | inr above ↦ elim (cases_lt j i) [
        | inl below ↦ absurd (apart j i node below there at)
        | inr same ↦ omega (arith, above, same)
      ]
    ]

    -- and is found there
    pub found_at : (node i : ℕ) → slice_get nodes i ≡ Some node → position (nat_eq node) nodes ≡ Some i
    found_at node i at =
        let first = first_place node i at in
        first
        ∙ ap Some (one_place (position_or_len (nat_eq node) nodes) i node (node_of_found node _ first) at)
