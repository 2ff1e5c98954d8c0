-- What is remembered once all pairs of a plan were evaluated, where nothing was before.
use Rattle.std.specs.Prelude.{◌≡◌, ℕ, ◌+◌, List, Option, None, is_some, Contains, ◌↔◌}
use Rattle.std.specs.Cmp.{both_ways}
use Rattle.std.specs.Map.{lookup}
use Rattle.std.specs.Option.{option_map}
use Rattle.std.specs.Set.{is_member}
use Rattle.std.proofs.Common.{sym, ap, ◌∙◌, inl, inr, true≢false}
use Rattle.std.proofs.lemmas.Map.Made.{length-from_keys}
use Rattle.shx_term.specs.Members.{SameMembers}
use Rattle.graph_view.specs.declared.key.Key.{Key}
use Rattle.graph_view.specs.Graph.{Graph}
use Rattle.indexmap.specs.IndexMap.{IsEmpty}
use Rattle.comp_core.specs.Memo.{remembered_of}
use Rattle.comp_core.specs.declared.memo.PairAnswer.{PairAnswer}
use Rattle.comp_core.specs.declared.pair.Pair.{Pair}
use Rattle.comp_core.specs.Pairs.{same_pair, same_pair_equiv}
use Rattle.shape_eval.specs.declared.answers.Answers.{Answers}
use Rattle.shape_eval.specs.declared.shape.PlanShape.{PlanShape}
use Rattle.shape_eval.specs.Answered.{answered}
use Rattle.shape_eval.specs.Nested.{nested_pairs}
use Rattle.shape_eval.specs.Plan.{Planned}
use Rattle.shape_eval.specs.Recalled.{IsRecallOf, IsRecalled}
use Rattle.shape_eval.specs.Report.{pairs}
use Rattle.read_records.specs.Recall.{Answer, RecallState, kept_of}
use Rattle.edit_engine.specs.Remembered.{AreAllRecalled, nested_count}
use Rattle.edit_engine.specs.inner.Recall.{BringsNested}
use Rattle.edit_engine.proofs.PairLemmas.{among_pairs}

-- no answers
pub answered-none : (answers : Answers (List Key)) → IsEmpty answers.answers → (p : Pair)
    → answered answers p ≡ None
answered-none answers empty p = ap (λ entries. option_map remembered_of (lookup (same_pair p) entries)) empty

module _ (old : Pair → Option Answer) (none : (p : Pair) → old p ≡ None) where
  not_recalled : (p : Pair) → IsRecalled old p → ⊥
  not_recalled p there = true≢false (sym there ∙ ap is_some (none p))

  -- nothing is right of any graph
  pub IsRecallOf-none : (shapes : List PlanShape) (g : Graph) → IsRecallOf SameMembers shapes g old
  IsRecallOf-none shapes g = record {
    right = record { each = λ p a e. absurd (not_recalled p (ap is_some e)) };
    closed = record { each = λ p there. absurd (not_recalled p there) };
  }

  module _ (plan : Planned) (g : Graph) (new : Pair → Option Answer) (m n : ℕ)
      (done : BringsNested plan.shapes g old new (pairs plan g) m n) where
    brought_are : (p : Pair) → Contains done.brings.brought p ↔ Contains (nested_pairs plan g) p
    brought_are p = (
      done.brings.are_among p,
      λ c. elim ((done.brings.known p).0 (done.remembers.nested.each p c)) [
        | inl was ↦ absurd (not_recalled p was)
        | inr d ↦ d
      ],
    )

    -- exactly the nested pairs were counted
    pub nested_counted : n ≡ m + nested_count plan g
    nested_counted =
        let brought = done.brings.brought in
        let nested = nested_pairs plan g in
        done.brings.counted
        ∙ ap (λ k. m + k)
        (length-from_keys same_pair_equiv brought nested done.brings.once
        (λ p. both_ways (is_member same_pair brought p) (is_member same_pair nested p)
        (λ e. (among_pairs nested p).1 ((brought_are p).0 ((among_pairs brought p).0 e)))
        (λ e. (among_pairs brought p).1 ((brought_are p).1 ((among_pairs nested p).0 e)))))

    -- and they are remembered, and nothing else is
    pub nested_recalled : AreAllRecalled new (nested_pairs plan g)
    nested_recalled = record {
      each = λ p. (
        done.remembers.nested.each p,
        λ there. elim ((done.brings.known p).0 there) [
          | inl was ↦ absurd (not_recalled p was)
          | inr d ↦ done.brings.are_among p d
        ],
      );
    }

-- ---- the answers, taken over

-- what is kept is what was answered
pub kept_answers : (answers : Answers (List Key)) (all : List (Pair × PairAnswer (List Key)))
    (recall kept : RecallState) → all ≡ answers.answers.entries
    → ((p : Pair) → kept_of recall p ≡ option_map remembered_of (lookup (same_pair p) all))
    → kept ≡ recall → kept_of kept ≡ answered answers
kept_answers answers all recall kept are given same =
    ap kept_of same
    ∙ (λ i p. (given p ∙ ap (λ entries. option_map remembered_of (lookup (same_pair p) entries)) are) i)
