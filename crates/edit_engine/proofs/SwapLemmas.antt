-- Two plans, of whose shapes it is told which are alike: a pair of the one as a pair of the other.
use Rattle.std.specs.Prelude.{◌≡◌, ℕ, nat_eq, List, Option, Some, None, get_or, length, position, slice_get}
use Rattle.std.specs.List.{position_or_len}
use Rattle.std.specs.Option.{option_eq, option_map, unwrap_or}
use Rattle.std.proofs.Common.{refl, sym, ap, ◌∙◌, arith, eq-eqb, subst}
use Rattle.std.proofs.lemmas.Option.{slice_get-get_or}
use Rattle.comp_core.specs.declared.pair.Pair.{Pair}
use Rattle.shape_eval.specs.declared.shape.PlanShape.{PlanShape}
use Rattle.shape_eval.specs.Plan.{IsNumbered}
use Rattle.shape_eval.specs.Report.{at_shape}
use Rattle.plan_swap.specs.Alike.{AreAlike, AreAlikes}
use Rattle.plan_swap.specs.Swap.{pair_after, pair_before}
use Rattle.plan_swap.proofs.LevelLemmas.{alike_of_node, number_is, one_node, within_both}
use Rattle.plan_swap.proofs.PlaceLemmas.{found_somewhere}
use Rattle.plan_swap.proofs.SwapLemmas.{alike_there}

-- an old pair and a new one of alike shapes, at the same node
pub record IsAlikePair (old new : List PlanShape) (q p : Pair) : Type 0 where
  pub shapes : AreAlike old new q.shape p.shape
  pub node : p.node ≡ q.node

-- so the new one is the pair of its shape at the node of the old one
pub at_same_node : {old new : List PlanShape} {q p : Pair} → IsAlikePair old new q p
    → p ≡ at_shape p.shape q.node
at_same_node {p = p} alike = λ i. record { shape = p.shape; node = alike.node i }

module _ (old new : List PlanShape) (numbered : IsNumbered old) (renumbered : IsNumbered new) where
  -- one new shape is alike with an old one
  one_after : (m n k : ℕ) → AreAlike old new m n → AreAlike old new m k → k ≡ n
  one_after m n k first then =
      sym (number_is old new numbered renumbered (length new) m k then)
      ∙ number_is old new numbered renumbered (length new) m n first

  -- and one old shape with a new one
  one_before : (m n i : ℕ) → AreAlike old new m n → AreAlike old new i n → i ≡ m
  one_before m n i first then =
      alike_of_node old new numbered renumbered (length new) i m n first
      (one_node old new (length new) i n then)

  -- so one old pair is of a new one
  pub one_old_pair : (q r p : Pair) → IsAlikePair old new q p → IsAlikePair old new r p → q ≡ r
  one_old_pair q r p first then =
      let shape = one_before r.shape p.shape q.shape then.shapes first.shapes in
      let node = sym first.node ∙ then.node in
      λ i. record { shape = shape i; node = node i }

  module _ (alikes : List (Option ℕ)) (are : AreAlikes old new alikes) where
    module _ (m n : ℕ) (alike : AreAlike old new m n) where
      -- what is told of the new shape is the number of the old one
      told_is : (o : Option (Option ℕ)) → slice_get alikes n ≡ o → o ≡ Some (Some m)
      told_is None at =
          let within = (within_both old new (length new) m n alike).1 in
          let here = slice_get-get_or alikes n None (omega (arith, within, are.each)) in
          let other : None ≡ Some (get_or alikes n None) = sym at ∙ here in
          cc
      told_is (Some None) at = absurd (are.none m n at alike)
      told_is (Some (Some i)) at = ap (λ k. Some (Some k)) (one_before m n i alike (are.found i n at))

      -- and it is found there
      found_there : position (option_eq nat_eq (Some m)) alikes ≡ Some n
      found_there =
          let test = option_eq nat_eq (Some m) in
          let found = found_somewhere test alikes n (Some m) (told_is (slice_get alikes n) refl)
          (eq-eqb m m refl) in
          let place = position_or_len test alikes in
          found
          ∙ ap Some (one_after m n place alike (alike_there old new renumbered alikes are m place found))

    pub pair_after_is : (q p : Pair) → IsAlikePair old new q p → pair_after alikes q ≡ Some p
    pair_after_is q p alike =
        ap (option_map (λ n. at_shape n q.node)) (found_there q.shape p.shape alike.shapes)
        ∙ ap Some (sym (at_same_node alike))

    pub after_alike : (q p : Pair) → pair_after alikes q ≡ Some p → IsAlikePair old new q p
    after_alike q p = by (position (option_eq nat_eq (Some q.shape)) alikes) refl
      where
        by : (o : Option ℕ) → position (option_eq nat_eq (Some q.shape)) alikes ≡ o
            → option_map (λ n. at_shape n q.node) o ≡ Some p → IsAlikePair old new q p
        by None found e = absurd (cc)
        by (Some n) found e =
            let is : at_shape n q.node ≡ p = cc in
            let alike = alike_there old new renumbered alikes are q.shape n found in
            subst (IsAlikePair old new q) is (record { shapes = alike; node = refl })

    pub before_alike : (q p : Pair) → pair_before alikes p ≡ Some q → IsAlikePair old new q p
    before_alike q p = by (slice_get alikes p.shape) refl
      where
        by : (o : Option (Option ℕ)) → slice_get alikes p.shape ≡ o
            → option_map (λ m. at_shape m p.node) (unwrap_or o None) ≡ Some q → IsAlikePair old new q p
        by None at e = absurd (cc)
        by (Some None) at e = absurd (cc)
        by (Some (Some m)) at e =
            let is : at_shape m p.node ≡ q = cc in
            subst (λ r. IsAlikePair old new r p) is (record { shapes = are.found m p.shape at; node = refl })
