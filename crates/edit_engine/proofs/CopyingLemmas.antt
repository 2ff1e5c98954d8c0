-- Answers that are copied in turn.
use Rattle.std.specs.Prelude.{◌≡◌, List, [], ◌∷◌, ◌++◌, Option, Some, None, Contains, IsSome, ◌⊎◌}
use Rattle.std.proofs.Common.{refl, sym, ap, ◌∙◌, subst, inl, inr}
use Rattle.std.proofs.lemmas.List.Elements.{Contains-append_cases, Contains-append_left}
use Rattle.std.proofs.lemmas.List.Elements.{Contains-append_right}
use Rattle.shx_term.specs.InOrder.{Lists}
use Rattle.shx_term.proofs.MemberLemmas.{Contains-head, Contains-one}
use Rattle.comp_core.specs.Memo.{RemembersAlso}
use Rattle.comp_core.specs.declared.pair.Pair.{Pair}
use Rattle.shape_eval.specs.Plan.{IsNumbered}
use Rattle.shape_eval.specs.Recalled.{IsRecalled}
use Rattle.shape_eval.proofs.RecalledLemmas.{by_pair, recalled_here}
use Rattle.plan_swap.specs.declared.swap.Swap.{Swap}
use Rattle.plan_swap.specs.Swap.{IsSwap, pair_after, plan_after, plan_before}
use Rattle.read_records.specs.Recall.{Answer, pair_cmp}
use Rattle.edit_engine.specs.inner.Swapping.{AreCopied, IsCopied, IsCopy}
use Rattle.edit_engine.proofs.SwapLemmas.{after_alike, one_old_pair}

-- a pair that has no new one has none that could be copied
pub none_after : (swap : Swap) (was : Pair → Option Answer) (q : Pair) → None ≡ pair_after swap.alikes.now q
    → (p : Pair) → IsRecalled was q → pair_after swap.alikes.now q ≡ Some p → ⊥
none_after swap was q none p there at = let other : None ≡ Some p = none ∙ at in (cc)

-- the answers of these pairs are copied, where they are remembered and their shapes are alike, and no others
pub record AreCopiedOf (swap : Swap) (was now : Pair → Option Answer) (qs : List Pair) : Type 0 where
  pub each : (q p : Pair) → Contains qs q → IsRecalled was q → pair_after swap.alikes.now q ≡ Some p
      → IsCopied swap was now q p
  pub only : (p : Pair) → IsRecalled now p
      → (q : Pair) × Contains qs q × (pair_after swap.alikes.now q ≡ Some p)

some_is : (a b : Pair) → Some a ≡ Some b → a ≡ b
some_is a b e = cc

module _ (qs more : List Pair) (r : Pair) (is : more ≡ qs ++ r ∷ []) where
  this_or_before : (q : Pair) → Contains more q → (q ≡ r) ⊎ Contains qs q
  this_or_before q c = elim (Contains-append_cases qs (r ∷ []) q (subst (λ ps. Contains ps q) is c)) [
    | inl d ↦ inr d
    | inr d ↦ inl ((Contains-one r q).0 d)
  ]

  before_still : (q : Pair) → Contains qs q → Contains more q
  before_still q c = subst (λ ps. Contains ps q) (sym is) (Contains-append_left qs (r ∷ []) q c)

  this_also : Contains more r
  this_also = subst (λ ps. Contains ps r) (sym is) (Contains-append_right qs (r ∷ []) r (Contains-head r []))

module _ {swap : Swap} {was : Pair → Option Answer} where
  -- a copy speaks of the answer at its own pair alone
  copied_as : {now : Pair → Option Answer} (other : Pair → Option Answer) (q p : Pair) → other p ≡ now p
      → IsCopied swap was now q p → IsCopied swap was other q p
  copied_as other q p same copied = record {
    before = copied.before;
    after = copied.after;
    was = copied.was;
    is = same ∙ copied.is;
    same = copied.same;
  }

  -- once all that are remembered were gone over
  pub AreCopied-all : {now : Pair → Option Answer} (qs : List Pair)
      → Lists pair_cmp (λ q. IsSome (was q)) qs → AreCopiedOf swap was now qs → AreCopied swap was now
  AreCopied-all qs all copied = record {
    each = λ q p there. copied.each q p ((all.each q).1 there) there;
    only = λ p there.
        let from = copied.only p there in
        (from.0, ((all.each from.0).0 from.1, from.2));
  }

  module _ {qs more : List Pair} (r : Pair) (is : more ≡ qs ++ r ∷ []) where
    -- one pair more, of no alike shape, or not remembered
    pub AreCopiedOf-passed : {now : Pair → Option Answer}
        → ((p : Pair) → IsRecalled was r → pair_after swap.alikes.now r ≡ Some p → ⊥)
        → AreCopiedOf swap was now qs → AreCopiedOf swap was now more
    AreCopiedOf-passed none before = record {
      each = λ q p c there at. elim (this_or_before qs more r is q c) [
        | inl same ↦
            absurd (none p (subst (IsRecalled was) same there)
            (subst (λ s. pair_after swap.alikes.now s ≡ Some p) same at))
        | inr d ↦ before.each q p d there at
      ];
      only = λ p there.
          let from = before.only p there in
          (from.0, before_still qs more r is from.0 from.1, from.2);
    }

    -- one pair more, whose answer is copied
    module _ (swapped : IsSwap swap) (numbered : IsNumbered (plan_before swap).shapes)
        (renumbered : IsNumbered (plan_after swap).shapes) {old now : Pair → Option Answer} (p : Pair)
        (at : pair_after swap.alikes.now r ≡ Some p) (found answer : Answer) (held : was r ≡ Some found)
        (copy : IsCopy swap found answer) (also : RemembersAlso old now p answer)
        (before : AreCopiedOf swap was old qs) where
      -- a pair that has this one for its pair is the one that it was copied of
      copied_of : (q : Pair) → pair_after swap.alikes.now q ≡ Some p → q ≡ r
      copied_of q same =
          let alike = after_alike (plan_before swap).shapes (plan_after swap).shapes numbered renumbered
          swap.alikes.now swapped.alikes in
          one_old_pair (plan_before swap).shapes (plan_after swap).shapes numbered renumbered q r p
          (alike q p same) (alike r p at)

      copied_here : (q : Pair) → q ≡ r → IsCopied swap was (λ _. Some answer) q p
      copied_here q same = record {
        before = found;
        after = answer;
        was = ap was same ∙ held;
        is = refl;
        same = copy;
      }

      -- the copies before are still there
      copied_still : (q s : Pair) → pair_after swap.alikes.now q ≡ Some s → IsCopied swap was old q s
          → IsCopied swap was now q s
      copied_still q s told copied =
          let now_at = by_pair old now p answer also
          (λ t o. pair_after swap.alikes.now q ≡ Some t → IsCopied swap was (λ _. o) q t)
          (λ is. copied_here q (copied_of q is)) s
          (λ is. copied_as {now = old} (λ _. old s) q s refl copied) told in
          copied_as now q s refl now_at

      pub AreCopiedOf-more : AreCopiedOf swap was now more
      AreCopiedOf-more = record {
        each = λ q s c there told. elim (this_or_before qs more r is q c) [
          | inl same ↦
              let one : p ≡ s = some_is p s (sym at ∙ ap (pair_after swap.alikes.now) (sym same) ∙ told) in
              subst (IsCopied swap was now q) one (record {
                before = found;
                after = answer;
                was = ap was same ∙ held;
                is = recalled_here old now p answer also;
                same = copy;
              })
          | inr d ↦ copied_still q s told (before.each q s d there told)
        ];
        only = λ s. by_pair old now p answer also
            (λ t o. IsSome o → (q : Pair) × Contains more q × (pair_after swap.alikes.now q ≡ Some t))
            (λ there. (r, this_also qs more r is, at)) s
            (λ there.
            let from = before.only s there in
            (from.0, before_still qs more r is from.0 from.1, from.2));
      }
