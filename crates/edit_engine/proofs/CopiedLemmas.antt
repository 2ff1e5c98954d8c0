-- What is remembered under an old plan, and was copied of alike shapes: it is right under the new one, and
-- closed.
use Rattle.std.specs.Prelude.{◌≡◌, ◌<◌, List, Option, Some, Contains, is_some, length, map}
use Rattle.std.proofs.Common.{refl, sym, ap, ◌∙◌, subst}
use Rattle.shx_term.specs.Members.{SameMembers}
use Rattle.shx_term.proofs.MemberLemmas.{Contains-from_map}
use Rattle.shx_term.proofs.SetLemmas.{SameMembers-map, SameMembers-sym, SameMembers-then}
use Rattle.graph_view.specs.declared.key.Key.{Key}
use Rattle.graph_view.specs.Graph.{Graph}
use Rattle.comp_core.specs.declared.pair.Pair.{Pair}
use Rattle.shape_eval.specs.Nested.{nested_in}
use Rattle.shape_eval.specs.Own.{own_reads}
use Rattle.shape_eval.specs.Plan.{IsNumbered}
use Rattle.shape_eval.specs.Recalled.{AreRecalled, IsRecallOf, IsRecalled, IsRightOf}
use Rattle.shape_eval.specs.Results.{results}
use Rattle.plan_swap.specs.declared.swap.Swap.{Swap}
use Rattle.plan_swap.specs.Renumbered.{AlikeShapesFindAlike, AlikeShapesNestAlike, key_renumbered}
use Rattle.plan_swap.specs.Renumbered.{pair_renumbered, rows_renumbered}
use Rattle.plan_swap.specs.Swap.{IsSwap, number_after, pair_after, plan_after, plan_before}
use Rattle.read_records.specs.Recall.{Answer}
use Rattle.edit_engine.specs.Remembered.{AreAllRecalled}
use Rattle.edit_engine.specs.Swapped.{staying_over}
use Rattle.edit_engine.specs.inner.Swapping.{AreCopied, IsCopied, IsCopy}
use Rattle.edit_engine.proofs.ImageLemmas.{Contains-filter_map, Contains-from_filter_map}
use Rattle.edit_engine.proofs.SwapLemmas.{IsAlikePair, after_alike, at_same_node, pair_after_is}

module _ (swap : Swap) (was now : Pair → Option Answer) (copied : AreCopied swap was now) where
  -- the pairs that are remembered are those of alike shapes
  pub staying_recalled : (kept : List Pair) → AreAllRecalled was kept
      → AreAllRecalled now (staying_over swap.alikes.now kept)
  staying_recalled kept all = record {
    each = λ p. (
      λ c.
          let from = Contains-from_filter_map (pair_after swap.alikes.now) kept p c in
          ap is_some (copied.each from.0 p ((all.each from.0).0 from.1) from.2).is,
      λ there.
          let from = copied.only p there in
          Contains-filter_map (pair_after swap.alikes.now) kept from.0 p ((all.each from.0).1 from.1.0)
          from.1.1,
    );
  }

module _ (swap : Swap) (is : IsSwap swap) (numbered : IsNumbered (plan_before swap).shapes)
    (renumbered : IsNumbered (plan_after swap).shapes) (g : Graph) where
  abbrev IsSame : Pair → Pair → Type 0
  IsSame q p = IsAlikePair (plan_before swap).shapes (plan_after swap).shapes q p

  some_is : (a b : Answer) → Some a ≡ Some b → a ≡ b
  some_is a b e = cc

  -- ---- an alike pair comes to the same, under new numbers

  module _ (law : AlikeShapesFindAlike) (q p : Pair) (alike : IsSame q p) where
    pub results_after : results (plan_after swap).shapes g p
        ≡ rows_renumbered (number_after swap) (results (plan_before swap).shapes g q)
    results_after =
        ap (results (plan_after swap).shapes g) (at_same_node alike)
        ∙ (law (plan_before swap).shapes (plan_after swap).shapes numbered renumbered g q.shape p.shape
        alike.shapes q.node).rows

    -- and for it itself the same is read, under new numbers
    pub reads_after : (reads found : List Key)
        → SameMembers found (map (key_renumbered (number_after swap)) reads)
        → SameMembers reads (own_reads (plan_before swap).shapes g q)
        → SameMembers found (own_reads (plan_after swap).shapes g p)
    reads_after reads found copy were =
        let kept = key_renumbered (number_after swap) in
        let own = own_reads (plan_before swap).shapes g q in
        let finds = law (plan_before swap).shapes (plan_after swap).shapes numbered renumbered g q.shape
        p.shape alike.shapes q.node in
        let same = subst (λ (r : Pair). SameMembers (own_reads (plan_after swap).shapes g r) (map kept own))
        (sym (at_same_node alike)) finds.own in
        SameMembers-then copy
        (SameMembers-then (SameMembers-map kept reads own were) (SameMembers-sym same))

  -- ---- nested in it are alike pairs

  module _ (law : AlikeShapesNestAlike) (q p : Pair) (alike : IsSame q p) where
    nested_after : (d : Pair) → Contains (nested_in (plan_after swap).shapes g p) d
        → (e : Pair) × Contains (nested_in (plan_before swap).shapes g q) e × IsSame e d
    nested_after d c =
        let older = (plan_before swap).shapes in
        let nests =
        law older (plan_after swap).shapes numbered renumbered g q.shape p.shape alike.shapes q.node in
        let are = ap (nested_in (plan_after swap).shapes g) (at_same_node alike) ∙ nests.pairs in
        let from = Contains-from_map (pair_renumbered (number_after swap))
        (nested_in (plan_before swap).shapes g q) d (subst (λ ds. Contains ds d) are c) in (
          from.0,
          from.1,
          subst (IsSame from.0) (sym from.2) (record { shapes = nests.alike from.0 from.1; node = refl }),
        )

  -- ---- what was copied

  module _ (was now : Pair → Option Answer) (copied : AreCopied swap was now) where
    copy_of : (q p : Pair) → IsRecalled was q → IsSame q p → IsCopied swap was now q p
    copy_of q p there alike =
        copied.each q p there
        (pair_after_is (plan_before swap).shapes (plan_after swap).shapes numbered renumbered swap.alikes.now
        is.alikes q p alike)

    copied_from : (p : Pair) → IsRecalled now p → (q : Pair) × IsRecalled was q × IsSame q p
    copied_from p there =
        let from = copied.only p there in (
          from.0,
          from.1.0,
          after_alike (plan_before swap).shapes (plan_after swap).shapes numbered renumbered swap.alikes.now
              is.alikes from.0 p from.1.1,
        )

    -- where all that is nested in an old pair was remembered, all that is nested in an alike one is
    pub nested_copied : AlikeShapesNestAlike → (q p : Pair) → IsSame q p
        → AreRecalled was (nested_in (plan_before swap).shapes g q)
        → AreRecalled now (nested_in (plan_after swap).shapes g p)
    nested_copied law q p alike were = record {
      each = λ d c.
          let from = nested_after law q p alike d c in
          ap is_some (copy_of from.0 d (were.each from.0 from.1) from.2).is;
    }

    -- an answer of an alike pair is right under new numbers
    right_copy : AlikeShapesFindAlike → (q p : Pair) → IsSame q p → (before after : Answer)
        → IsCopy swap before after → IsRightOf SameMembers (plan_before swap).shapes g q before
        → IsRightOf SameMembers (plan_after swap).shapes g p after
    right_copy law q p alike before after copy right = record {
      rows = copy.rows ∙ ap (rows_renumbered (number_after swap)) right.rows
          ∙ sym (results_after law q p alike);
      reads = reads_after law q p alike before.reads after.reads copy.reads right.reads;
      node = subst (λ id. id < length g.terms) (sym alike.node) right.node;
    }

    pub IsRecallOf-copied : AlikeShapesFindAlike → AlikeShapesNestAlike
        → IsRecallOf SameMembers (plan_before swap).shapes g was
        → IsRecallOf SameMembers (plan_after swap).shapes g now
    IsRecallOf-copied finds nests old = record {
      right = record {
        each = λ p a at.
            let from = copied_from p (ap is_some at) in
            let one = copy_of from.0 p from.1 from.2 in
            subst (IsRightOf SameMembers (plan_after swap).shapes g p) (some_is one.after a (sym one.is ∙ at))
            (right_copy finds from.0 p from.2 one.before one.after one.same
            (old.right.each from.0 one.before one.was));
      };
      closed = record {
        each = λ p there.
            let from = copied_from p there in
            nested_copied nests from.0 p from.2 (old.closed.each from.0 from.1);
      };
    }
