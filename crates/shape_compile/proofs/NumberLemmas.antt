-- The numbers of nodes among others.
use Rattle.std.specs.Prelude.{◌≡◌, ℕ, nat_eq, List, Contains, Some, None, get_or, length, position, slice_get}
use Rattle.std.specs.Cmp.{nat_eq_equiv}
use Rattle.std.specs.List.{position_or_len}
use Rattle.std.proofs.Common.{refl, sym, ap, ◌∙◌, lt-ltb}
use Rattle.std.proofs.lemmas.Bool.{eqb-true}
use Rattle.std.proofs.lemmas.List.Quantifiers.{position-Some}
use Rattle.std.proofs.lemmas.Map.Views.{list_any-from_Contains}
use Rattle.std.proofs.lemmas.Option.{slice_get-get_or}
use Rattle.shx_term.proofs.HeldLemmas.{place_of_any}

module _ (nodes : List ℕ) (node : ℕ) where
  -- the node of the number that is found
  pub node_of_found : (number : ℕ) → position (nat_eq node) nodes ≡ Some number
      → slice_get nodes number ≡ Some node
  node_of_found number found =
      let at = position-Some (nat_eq node) nodes number 0 found in
      slice_get-get_or nodes number 0 at.0 ∙ ap Some (sym (eqb-true node (get_or nodes number 0) at.1))

  -- one is found of each that is among them
  pub none_not_found : Contains nodes node → position (nat_eq node) nodes ≡ None → ⊥
  none_not_found held none =
      let place = place_of_any (nat_eq node) nodes (list_any-from_Contains nat_eq_equiv node nodes held) in
      let found : position (nat_eq node) nodes ≡ Some (position_or_len (nat_eq node) nodes) =
      rw (lt-ltb _ (length nodes) place) refl in
      cc
