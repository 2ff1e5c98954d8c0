-- Where an old shape stands among the shapes of a new plan.
use Rattle.std.specs.Prelude.{◌≡◌, ◌≤◌, ℕ, nat_eq, Bool, true, false, List, Option, Some, None, get_or}
use Rattle.std.specs.Prelude.{length, position, slice_get}
use Rattle.std.specs.Bool.{then_some}
use Rattle.std.specs.Cmp.{nat_eq_equiv}
use Rattle.std.specs.List.{position_or_len}
use Rattle.std.specs.Option.{option_eq}
use Rattle.std.proofs.Common.{refl, sym, ap, ◌∙◌, arith, true≢false}
use Rattle.std.proofs.lemmas.Bool.{eqb-true}
use Rattle.std.proofs.lemmas.List.Quantifiers.{position-Some}
use Rattle.std.proofs.lemmas.Option.{slice_get-get_or}
use Rattle.shape_eval.specs.declared.shape.PlanShape.{PlanShape}
use Rattle.shape_eval.specs.Plan.{IsNumbered, nodes_of, number_of}
use Rattle.plan_swap.specs.Alike.{AreAlike, AreAlikes}
use Rattle.plan_swap.proofs.LevelLemmas.{one_node, within_both}
use Rattle.plan_swap.proofs.PlaceLemmas.{found_at, found_somewhere, node_at}

none_by : (o : Option ℕ) → ((n : ℕ) → o ≡ Some n → ⊥) → o ≡ None
none_by None never = refl
none_by (Some n) never = absurd (never n refl)

module _ (old new : List PlanShape) (renumbered : IsNumbered new) (alikes : List (Option ℕ))
    (are : AreAlikes old new alikes) (m : ℕ) where
  abbrev pub is_this : Option ℕ → Bool
  is_this = option_eq nat_eq (Some m)

  this_from_true : (o : Option ℕ) → is_this o ≡ true → o ≡ Some m
  this_from_true None so = absurd (true≢false (sym so))
  this_from_true (Some i) so = ap Some (sym (eqb-true m i so))

  told_at : (n : ℕ) → position is_this alikes ≡ Some n → slice_get alikes n ≡ Some (Some m)
  told_at n found =
      let at = position-Some is_this alikes n None found in
      slice_get-get_or alikes n None at.0 ∙ ap Some (this_from_true (get_or alikes n None) at.1)

  pub alike_there : (n : ℕ) → position is_this alikes ≡ Some n → AreAlike old new m n
  alike_there n found = are.found m n (told_at n found)

  pub none_past : length old ≤ m → position is_this alikes ≡ None
  none_past past = none_by (position is_this alikes) (λ n found.
      let within = (within_both old new (length new) m n (alike_there n found)).0 in
      omega (arith, past, within))

  module _ (sh : PlanShape) (at : slice_get old m ≡ Some sh) where
    -- it is the number of the new shape of its node
    number_there : (n : ℕ) → position is_this alikes ≡ Some n → number_of new sh.node ≡ Some n
    number_there n found =
        found_at (nodes_of new) renumbered.distinct sh.node n
        (sym (one_node old new (length new) m n (alike_there n found)) ∙ node_at old m sh at)

    pub none_of_its_node : number_of new sh.node ≡ None → position is_this alikes ≡ None
    none_of_its_node none = none_by (position is_this alikes) (λ n found.
        let there = number_there n found in
        cc)

    module _ (n : ℕ) (number : number_of new sh.node ≡ Some n) (o : Option ℕ)
        (told : slice_get alikes n ≡ Some o) where
      none_other : is_this o ≡ false → position is_this alikes ≡ None
      none_other other = none_by (position is_this alikes) (λ i found.
          let one : Some i ≡ Some n = sym (number_there i found) ∙ number in
          let same : i ≡ n = cc in
          let here : Some (Some m) ≡ Some o =
          sym (told_at i found) ∙ ap (slice_get alikes) same ∙ told in
          let this : Some m ≡ o = cc in
          true≢false (sym (nat_eq_equiv.refl m) ∙ ap is_this this ∙ other))

      place_here : is_this o ≡ true → position is_this alikes ≡ Some n
      place_here this =
          let found = found_somewhere is_this alikes n o told this in
          found ∙ sym (number_there (position_or_len is_this alikes) found) ∙ number

      turned : (i : Option ℕ) → is_this i ≡ option_eq nat_eq i (Some m)
      turned None = refl
      turned (Some i) = nat_eq_equiv.symm m i

      -- where that new shape is alike with it
      pub place_by_node : (b : Bool) → b ≡ option_eq nat_eq o (Some m)
          → then_some b n ≡ position is_this alikes
      place_by_node true is = sym (place_here (turned o ∙ sym is))
      place_by_node false is = sym (none_other (turned o ∙ sym is))
