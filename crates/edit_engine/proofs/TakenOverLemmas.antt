-- A pair of a new plan that was one of the old plan, at an alike shape: what was kept of it is taken over.
use Rattle.std.specs.Prelude.{◌≡◌, true, false, List, Some, None, Contains, map, slice_get}
use Rattle.std.proofs.Common.{sym, ap, ◌∙◌, subst, inl, inr}
use Rattle.shx_term.specs.declared.term.Term.{Term}
use Rattle.shx_term.specs.Members.{SameMembers}
use Rattle.graph_view.specs.declared.key.Key.{Key}
use Rattle.graph_view.specs.Graph.{Graph}
use Rattle.graph_view.proofs.PatchedLemmas.{is_false}
use Rattle.comp_core.specs.declared.memo.PairAnswer.{PairAnswer}
use Rattle.comp_core.specs.declared.pair.Pair.{Pair}
use Rattle.shape_eval.specs.Own.{own_reads}
use Rattle.shape_eval.specs.Plan.{IsNumbered}
use Rattle.shape_eval.specs.Report.{pairs}
use Rattle.plan_swap.specs.declared.swap.Swap.{Swap}
use Rattle.plan_swap.specs.Renumbered.{AlikeShapesFindAlike, key_renumbered, rows_renumbered}
use Rattle.plan_swap.specs.Swap.{IsSwap, number_after, pair_before, plan_after, plan_before}
use Rattle.pair_results.specs.PairResults.{rows_at}
use Rattle.read_records.specs.declared.reader.Reader.TheVariants.{OfPair}
use Rattle.read_records.specs.Records.{reads_of}
use Rattle.edit_engine.specs.declared.kept.Kept.{Kept}
use Rattle.edit_engine.specs.Renewal.{IsRight}
use Rattle.edit_engine.specs.Swapped.{is_pair_of, was_pair}
use Rattle.edit_engine.specs.Touched.{is_among_pairs}
use Rattle.edit_engine.specs.inner.Kept.{IsKeptOf}
use Rattle.edit_engine.proofs.CopiedLemmas.{reads_after, results_after}
use Rattle.edit_engine.proofs.PairLemmas.{among_pairs, pair_or_not}
use Rattle.edit_engine.proofs.SwapLemmas.{IsAlikePair, before_alike}

module _ (swap : Swap) (is : IsSwap swap) (numbered : IsNumbered (plan_before swap).shapes)
    (renumbered : IsNumbered (plan_after swap).shapes) (g : Graph) (kept : Kept)
    (held : IsKeptOf (plan_before swap).shapes (plan_before swap).targeted g kept) (p : Pair) where
  module _ (q : Pair) (before : Some q ≡ pair_before swap.alikes.now p) where
    pub alike_before : IsAlikePair (plan_before swap).shapes (plan_after swap).shapes q p
    alike_before =
        before_alike (plan_before swap).shapes (plan_after swap).shapes numbered renumbered swap.alikes.now
        is.alikes q p (sym before)

    -- it was a pair where the old one is
    was_if : was_pair (plan_before swap) swap.alikes.now g p ≡ is_among_pairs (pairs (plan_before swap) g) q
    was_if = ap (is_pair_of (plan_before swap) g) (sym before)

    -- where nothing was recorded for the old one, it was none
    pub none_recorded : None ≡ reads_of kept.records (OfPair q)
        → was_pair (plan_before swap) swap.alikes.now g p ≡ false
    none_recorded none =
        was_if
        ∙ is_false (is_among_pairs (pairs (plan_before swap) g) q) (λ e.
        let there = held.records.pairs q ((among_pairs (pairs (plan_before swap) g) q).0 e) in
        let other = none ∙ there.recorded in
        (cc))

    module _ (reads : List Key) (recorded : Some reads ≡ reads_of kept.records (OfPair q)) where
      is_old_pair : Contains (pairs (plan_before swap) g) q
      is_old_pair = elim (pair_or_not (pairs (plan_before swap) g) q) [
        | inl c ↦ c
        | inr free ↦ let other = recorded ∙ held.records.no_pair q free in absurd (cc)
      ]

      -- its answer is what it comes to, under new numbers
      pub taken_over : AlikeShapesFindAlike → (node : Term) → slice_get g.terms q.node ≡ Some node
          → (found : PairAnswer (List Key))
          → found.rows.items ≡ rows_renumbered (number_after swap) (rows_at kept.results q.shape node)
          → SameMembers found.reads (map (key_renumbered (number_after swap)) reads)
          → (was_pair (plan_before swap) swap.alikes.now g p ≡ true)
          × IsRight (plan_after swap).shapes g (record { pair = p; answer = found })
      taken_over law node at found rows read =
          let there = held.records.pairs q is_old_pair in
          let one : there.reads ≡ reads = cc in (
            was_if ∙ (among_pairs (pairs (plan_before swap) g) q).1 is_old_pair,
            record {
              rows = rows
                  ∙ ap (rows_renumbered (number_after swap)) (held.results.pairs q node is_old_pair at)
                  ∙ sym (results_after swap is numbered renumbered g law q p alike_before);
              reads = reads_after swap is numbered renumbered g law q p alike_before reads found.reads read
                  (subst (λ keys. SameMembers keys (own_reads (plan_before swap).shapes g q)) one
                  there.same);
            },
          )
