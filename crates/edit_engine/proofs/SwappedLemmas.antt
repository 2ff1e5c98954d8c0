-- The pairs of a new plan in turn: those that were pairs are taken over, and the others are evaluated.
use Rattle.std.specs.Prelude.{◌≡◌, ◌<◌, ◌≤◌, ℕ, ◌+◌, Bool, true, false, not, List, [], ◌∷◌, ◌++◌, Option}
use Rattle.std.specs.Prelude.{Some}
use Rattle.std.specs.Prelude.{None, filter, get_or, length, take, if◌then◌else◌}
use Rattle.std.proofs.Common.{refl, sym, ap, ◌∙◌, arith, inl, length-take, subst, true≢false}
use Rattle.std.proofs.lemmas.List.{take_more}
use Rattle.std.proofs.lemmas.List.Filters.{length-filter_more}
use Rattle.std.proofs.lemmas.List.Sums.{count_by-le-length, length-filter}
use Rattle.shx_term.proofs.MemberLemmas.{Contains-flat_map}
use Rattle.graph_view.specs.Graph.{Graph}
use Rattle.comp_core.specs.declared.pair.Pair.{Pair}
use Rattle.shape_eval.specs.Nested.{nested_in}
use Rattle.shape_eval.specs.Plan.{IsNumbered, Planned}
use Rattle.shape_eval.specs.Recalled.{AreRecalled, Brings}
use Rattle.shape_eval.specs.Report.{pairs}
use Rattle.plan_swap.specs.declared.swap.Swap.{Swap}
use Rattle.plan_swap.specs.Renumbered.{AlikeShapesNestAlike}
use Rattle.plan_swap.specs.Swap.{IsSwap, pair_before, plan_after, plan_before}
use Rattle.read_records.specs.Recall.{Answer, kept_of}
use Rattle.edit_engine.specs.declared.kept.Kept.{Kept}
use Rattle.edit_engine.specs.declared.renewal.Evaluated.{Evaluated}
use Rattle.edit_engine.specs.Remembered.{AreAllRecalled}
use Rattle.edit_engine.specs.Renewal.{IsRight}
use Rattle.edit_engine.specs.Swapped.{SwapsFresh, is_pair_of, staying_over, was_pair}
use Rattle.edit_engine.specs.inner.Kept.{IsKeptOf}
use Rattle.edit_engine.specs.inner.Parts.{Evaluates}
use Rattle.edit_engine.specs.inner.Recall.{BringsNested}
use Rattle.edit_engine.specs.inner.Swapping.{AreCopied}
use Rattle.edit_engine.proofs.BringsLemmas.{BringsNested-same}
use Rattle.edit_engine.proofs.CopiedLemmas.{nested_copied}
use Rattle.edit_engine.proofs.EvaluatesLemmas.{Evaluates-more, Evaluates-none}
use Rattle.edit_engine.proofs.PairLemmas.{among_pairs}
use Rattle.edit_engine.proofs.RenewsRecallLemmas.{fresh_counted, fresh_recalled}
use Rattle.edit_engine.proofs.TakenOverLemmas.{alike_before}

-- whether a pair of the new plan was none of the old one
abbrev pub is_swapped : Swap → Graph → Pair → Bool
is_swapped swap g p = not (was_pair (plan_before swap) swap.alikes.now g p)

-- of some pairs those that were none were evaluated, each of which counts a step
pub record HasSwapped (swap : Swap) (g : Graph) (old : List Evaluated) (start : ℕ) (new : List Evaluated)
    (now count : ℕ) (ps : List Pair) : Type 0 where
  pub evaluated : Evaluates (plan_after swap).shapes g old new ps
  pub count_is : count ≡ length (filter (is_swapped swap g) ps)
  pub steps : now ≡ start + count

module _ {swap : Swap} {g : Graph} {old : List Evaluated} {start : ℕ} where
  pub HasSwapped-none : HasSwapped swap g old start old start 0 []
  HasSwapped-none = record { evaluated = Evaluates-none old; count_is = refl; steps = omega arith }

  pub HasSwapped-same : {new : List Evaluated} {now count : ℕ} (ps qs : List Pair) → ps ≡ qs
      → HasSwapped swap g old start new now count ps → HasSwapped swap g old start new now count qs
  HasSwapped-same {new} {now} {count} ps qs same = subst (HasSwapped swap g old start new now count) same

  module _ (ps : List Pair) (i : ℕ) (d : Pair) (inside : i < length ps) {mid new : List Evaluated}
      {now count : ℕ} (e : Evaluated) (is : e.pair ≡ get_or ps i d)
      (right : IsRight (plan_after swap).shapes g e) (pushed : new ≡ mid ++ e ∷ [])
      (before : HasSwapped swap g old start mid now count (take i ps)) where
    one_more : Evaluates (plan_after swap).shapes g old new (take (i + 1) ps)
    one_more =
        subst (λ es. Evaluates (plan_after swap).shapes g old es (take (i + 1) ps)) (sym pushed)
        (subst (Evaluates (plan_after swap).shapes g old (mid ++ e ∷ [])) (sym (take_more ps i d inside))
        (Evaluates-more (get_or ps i d) e is right before.evaluated))

    counted : (b : Bool) → was_pair (plan_before swap) swap.alikes.now g (get_or ps i d) ≡ b
        → length (filter (is_swapped swap g) (take (i + 1) ps))
        ≡ length (filter (is_swapped swap g) (take i ps)) + (if not b then 1 else 0)
    counted b is =
        length-filter_more (is_swapped swap g) ps i d inside
        ∙ ap (λ c. length (filter (is_swapped swap g) (take i ps)) + (if not c then 1 else 0)) is

    -- one pair more, which was one before
    pub HasSwapped-kept : was_pair (plan_before swap) swap.alikes.now g (get_or ps i d) ≡ true
        → HasSwapped swap g old start new now count (take (i + 1) ps)
    HasSwapped-kept was = record {
      evaluated = one_more;
      count_is = omega (arith, before.count_is, counted true was);
      steps = before.steps;
    }

    -- or which was none
    pub HasSwapped-more : was_pair (plan_before swap) swap.alikes.now g (get_or ps i d) ≡ false
        → {now' count' : ℕ} → now' ≡ now + 1 → count' ≡ count + 1
        → HasSwapped swap g old start new now' count' (take (i + 1) ps)
    HasSwapped-more was stepped added = record {
      evaluated = one_more;
      count_is = omega (arith, before.count_is, added, counted false was);
      steps = omega (arith, before.steps, stepped, added);
    }

  pub few_swapped : {new : List Evaluated} {now count : ℕ} (ps : List Pair) (i : ℕ)
      → HasSwapped swap g old start new now count (take i ps) → count ≤ i
  few_swapped ps i before =
      omega (
        arith,
        before.count_is,
        length-filter (is_swapped swap g) (take i ps),
        count_by-le-length (is_swapped swap g) (take i ps),
        length-take i ps,
      )

-- how many were none, where the pairs are the same
pub swapped_same : (swap : Swap) (g : Graph) (n : ℕ) (ps qs : List Pair) → ps ≡ qs
    → n ≡ length (filter (is_swapped swap g) ps) → n ≡ length (filter (is_swapped swap g) qs)
swapped_same swap g n ps qs same is = is ∙ ap (λ rs. length (filter (is_swapped swap g) rs)) same

-- ---- what is nested in a pair that was one

-- what was remembered still is
pub still_recalled : {first now : Pair → Option Answer} {among ps : List Pair} {m n : ℕ}
    → Brings first now among m n → AreRecalled first ps → AreRecalled now ps
still_recalled brings were = record { each = λ d c. (brings.known d).1 (inl (were.each d c)) }

module _ (swap : Swap) (is : IsSwap swap) (numbered : IsNumbered (plan_before swap).shapes)
    (renumbered : IsNumbered (plan_after swap).shapes) (g : Graph) (kept : Kept)
    (held : IsKeptOf (plan_before swap).shapes (plan_before swap).targeted g kept)
    (law : AlikeShapesNestAlike) (first : Pair → Option Answer)
    (copied : AreCopied swap (kept_of kept.recall) first) (p : Pair) where
  -- was remembered, and was copied
  pub nested_kept : was_pair (plan_before swap) swap.alikes.now g p ≡ true
      → AreRecalled first (nested_in (plan_after swap).shapes g p)
  nested_kept = by (pair_before swap.alikes.now p) refl
    where
      by : (o : Option Pair) → o ≡ pair_before swap.alikes.now p → is_pair_of (plan_before swap) g o ≡ true
          → AreRecalled first (nested_in (plan_after swap).shapes g p)
      by None before was = absurd (true≢false (sym was))
      by (Some q) before was =
          let there = (among_pairs (pairs (plan_before swap) g) q).0 was in
          nested_copied swap is numbered renumbered g (kept_of kept.recall) first copied law q p
          (alike_before swap is numbered renumbered g kept held p q before)
          (record {
            each = λ d c. held.recall.nested.each d
                (Contains-flat_map (nested_in (plan_before swap).shapes g) (pairs (plan_before swap) g) q d
                there c);
          })

-- where the nested pairs of alike shapes stay, and all pairs were evaluated or taken over, exactly the fresh
-- ones were counted, and they are remembered beside those that stay
pub swaps_fresh : (plan : Planned) (alikes : List (Option ℕ)) (g : Graph)
    (was first last : Pair → Option Answer) (ps : List Pair) (m n : ℕ) → ps ≡ pairs plan g
    → ((kept : List Pair) → AreAllRecalled was kept → AreAllRecalled first (staying_over alikes kept))
    → BringsNested plan.shapes g first last ps m n → SwapsFresh plan alikes g was last m n
swaps_fresh plan alikes g was first last ps m n all stay some =
    let done = BringsNested-same ps (pairs plan g) all some in
    record {
      counted = λ kept recalled.
          fresh_counted plan g first last m n (staying_over alikes kept) (stay kept recalled) done.brings
          done.remembers.nested;
      kept = λ kept recalled.
          fresh_recalled plan g first last m n (staying_over alikes kept) (stay kept recalled) done.brings
          done.remembers.nested;
    }
