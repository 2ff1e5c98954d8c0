-- Which shapes are alike, where it is known which of the lower ones are.
use Rattle.std.specs.Prelude.{◌≡◌, ◌<◌, ℕ, zero, suc, nat_eq, true, false, List}
use Rattle.std.specs.Prelude.{Option, Some, None, flat_map, get_or, length, position, slice_get}
use Rattle.std.specs.Prelude.{Contains}
use Rattle.std.specs.List.{position_or_len}
use Rattle.std.proofs.Common.{refl, sym, ◌∙◌, subst, arith, true≢false}
use Rattle.std.proofs.lemmas.Option.{slice_get-get_or, slice_get_within}
use Rattle.shx_term.proofs.MemberLemmas.{each_passes, list_all_of}
use Rattle.shape_eval.specs.declared.shape.PlanShape.{PlanShape}
use Rattle.shape_eval.specs.Constraint.{shapes_named}
use Rattle.shape_eval.specs.Plan.{IsNumbered, names_of, nodes_of, number_of, references}
use Rattle.plan_swap.specs.Alike.{AreAlike, AreAlikeWithin, IsSameShape}
use Rattle.plan_swap.specs.inner.Stated.{AreFoundBelow, are_known, is_found}
use Rattle.plan_swap.proofs.LevelLemmas.{alike_of_node, one_node}
use Rattle.plan_swap.proofs.PlaceLemmas.{first_place, node_at, node_of_found}

module _ (old new : List PlanShape) (numbered : IsNumbered old) (renumbered : IsNumbered new) where
  -- it does not matter at how many levels, from the new shape's number on
  pub alike_within : (k l m n : ℕ) → n < l → AreAlikeWithin k old new m n → AreAlikeWithin l old new m n
  alike_within zero l m n low alike = absurd alike
  alike_within (suc k) zero m n low alike = absurd (omega (arith, low))
  alike_within (suc k) (suc l) m n low alike = record {
    before = alike.before;
    after = alike.after;
    old_is = alike.old_is;
    new_is = alike.new_is;
    same = alike.same;
    named = λ j c.
        let found = alike.named j c in
        let lower = renumbered.refers.lower n j c in
        (found.0, alike_within k l found.0 j (omega (arith, lower, low)) found.1);
  }

  module _ (n : ℕ) (after : PlanShape) (new_is : slice_get new n ≡ Some after) where
    within : n < length new
    within = slice_get_within new n after new_is

    names : List ℕ
    names = flat_map shapes_named after.constraints.items

    named_here : (j : ℕ) → Contains (references new n) j → Contains names j
    unfolding names
    named_here j c = subst (λ o. Contains (names_of o) j) new_is c

    -- no old shape is of the new one's node
    pub none_of_node : number_of old after.node ≡ None → (m : ℕ) → AreAlike old new m n → ⊥
    none_of_node none m alike =
        let there : slice_get (nodes_of old) m ≡ Some after.node =
        one_node old new (length new) m n alike ∙ node_at new n after new_is in
        let place : position (nat_eq after.node) (nodes_of old)
        ≡ Some (position_or_len (nat_eq after.node) (nodes_of old)) =
        first_place (nodes_of old) after.node m there in
        cc

    module _ (m : ℕ) (before : PlanShape) (at : number_of old after.node ≡ Some m)
        (old_is : slice_get old m ≡ Some before) where
      -- an old shape that is alike is this one
      is_this : (i : ℕ) → AreAlike old new i n → m ≡ i
      is_this i alike =
          alike_of_node old new numbered renumbered (length new) m i n alike
          (node_of_found (nodes_of old) after.node m at ∙ sym (node_at new n after new_is))

      same_of : (k : ℕ) → AreAlikeWithin k old new m n
          → IsSameShape (nodes_of old) (nodes_of new) before after
      same_of zero alike = absurd alike
      same_of (suc k) alike =
          let first : Some alike.before ≡ Some before = sym alike.old_is ∙ old_is in
          let second : Some alike.after ≡ Some after = sym alike.new_is ∙ new_is in
          let b : alike.before ≡ before = cc in
          let a : alike.after ≡ after = cc in
          subst (λ sh. IsSameShape (nodes_of old) (nodes_of new) sh after) b
          (subst (λ sh. IsSameShape (nodes_of old) (nodes_of new) alike.before sh) a alike.same)

      pub none_same : (IsSameShape (nodes_of old) (nodes_of new) before after → ⊥) → (i : ℕ)
          → AreAlike old new i n → ⊥
      none_same differ i alike =
          differ (same_of (length new)
          (subst (λ k. AreAlike old new k n) (sym (is_this i alike)) alike))

    module _ (found : List (Option ℕ)) (below : AreFoundBelow old new n found) where
      known_by : (i j : ℕ) → j < n → AreAlike old new i j → (o : Option (Option ℕ)) → slice_get found j ≡ o
          → is_found found j ≡ true
      known_by i j low alike None is =
          let here = slice_get-get_or found j None (omega (arith, low, below.each)) in
          let other : None ≡ Some (get_or found j None) = sym is ∙ here in
          absurd (cc)
      known_by i j low alike (Some None) is = absurd (below.none i j is alike)
      known_by i j low alike (Some (Some k)) is = rw is refl

      each_known : (k m : ℕ) → AreAlikeWithin k old new m n → (j : ℕ) → Contains names j
          → is_found found j ≡ true
      unfolding names
      each_known zero m alike j c = absurd alike
      each_known (suc k) m alike j c =
          let named = subst (λ o. Contains (names_of o) j) (sym new_is) c in
          let low : j < n = renumbered.refers.lower n j named in
          let of = alike.named j named in
          let here : j < length new = omega (arith, low, within) in
          known_by of.0 j low (alike_within k (length new) of.0 j here of.1) (slice_get found j) refl

      -- not of each shape that it names is one known that is alike
      pub none_known : are_known after.constraints.items found ≡ false → (m : ℕ) → AreAlike old new m n → ⊥
      unfolding names
      none_known unknown m alike =
          true≢false (sym (list_all_of (is_found found) names (each_known (length new) m alike)) ∙ unknown)

      found_by : (j : ℕ) → j < n → (o : Option (Option ℕ)) → slice_get found j ≡ o → is_found found j ≡ true
          → (i : ℕ) × AreAlikeWithin n old new i j
      found_by j low None is known = absurd (true≢false (sym known ∙ rw is refl))
      found_by j low (Some None) is known = absurd (true≢false (sym known ∙ rw is refl))
      found_by j low (Some (Some i)) is known =
          (i, alike_within (length new) n i j low (below.alike i j is))

      -- the old shape of the node, where they are the same, and an old one is known for each that it names
      pub alike_is : (m : ℕ) (before : PlanShape) → slice_get old m ≡ Some before
          → IsSameShape (nodes_of old) (nodes_of new) before after
          → are_known after.constraints.items found ≡ true → AreAlike old new m n
      unfolding names
      alike_is m before old_is same known =
          alike_within (suc n) (length new) m n within (record {
            before = before;
            after = after;
            old_is = old_is;
            new_is = new_is;
            same = same;
            named = λ j c.
                found_by j (renumbered.refers.lower n j c) (slice_get found j) refl
                (each_passes (is_found found) names known j (named_here j c));
          })
