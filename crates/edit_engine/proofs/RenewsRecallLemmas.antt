-- A change that was evaluated: exactly the nested pairs that are fresh were counted, and what is remembered
-- is that of the changed graph.
use Rattle.std.specs.Prelude.{◌≡◌, ℕ, ◌+◌, ◌<◌, Bool, true, false, not, ◌||◌, List, ◌++◌, Option}
use Rattle.std.specs.Prelude.{length, Contains, ◌↔◌, ◌⊎◌}
use Rattle.std.specs.Cmp.{both_ways}
use Rattle.std.specs.Set.{distinct_count, is_member}
use Rattle.std.proofs.Common.{sym, ap, ◌∙◌, subst, inl, inr, true≢false}
use Rattle.std.proofs.lemmas.Bool.{not-true}
use Rattle.std.proofs.lemmas.List.Elements.{Contains-append_cases, Contains-append_left}
use Rattle.std.proofs.lemmas.List.Elements.{Contains-append_right}
use Rattle.std.proofs.lemmas.Map.Made.{length-from_keys}
use Rattle.shx_term.specs.Members.{SameMembers}
use Rattle.shx_term.specs.declared.triple.Triple.{Triple}
use Rattle.shx_term.proofs.MemberLemmas.{Contains-filter, Contains-flat_map, Contains-from_filter}
use Rattle.shx_term.proofs.MemberLemmas.{Contains-from_flat_map}
use Rattle.graph_view.specs.Graph.{Graph}
use Rattle.graph_view.proofs.PatchedLemmas.{is_not}
use Rattle.comp_core.specs.declared.pair.Pair.{Pair}
use Rattle.comp_core.specs.Pairs.{same_pair, same_pair_equiv}
use Rattle.shape_eval.specs.Nested.{nested_in, nested_pairs}
use Rattle.shape_eval.specs.Plan.{Planned}
use Rattle.shape_eval.specs.Recalled.{AreRecalled, Brings}
use Rattle.shape_eval.specs.Report.{pairs}
use Rattle.shape_eval.specs.Results.{pair_reads}
use Rattle.shape_eval.proofs.RecalledLemmas.{Brings-more}
use Rattle.read_records.specs.Recall.{Answer, RecallState, recalled}
use Rattle.edit_engine.specs.Remembered.{AreAllRecalled, fresh, staying}
use Rattle.edit_engine.specs.Touched.{is_among_pairs, is_any_touched, touched_pairs}
use Rattle.edit_engine.specs.inner.Recall.{BringsNested, ChangesLeaveWhatStays, IsChange, RemembersNested}
use Rattle.edit_engine.specs.inner.Recall.{RenewsRecall}
use Rattle.edit_engine.proofs.PairLemmas.{among_pairs, pair_or_not}
use Rattle.edit_engine.proofs.ReachedLemmas.{nested_recalled}
use Rattle.edit_engine.proofs.TestLemmas.{or_left, or_right}

-- ---- nested pairs of a graph that are remembered, and the rest of them

module _ (plan : Planned) (h : Graph) (old new : Pair → Option Answer) (m n : ℕ) where
  -- where each pair was evaluated, or all that is nested in it was remembered before
  module _ (evaluated : List Pair) (done : BringsNested plan.shapes h old new evaluated m n) where
    brings_of_all : ((q : Pair) → Contains evaluated q → Contains (pairs plan h) q)
        → Brings old new (nested_pairs plan h) m n
    brings_of_all are_pairs =
        Brings-more (nested_pairs plan h)
        (λ d c.
        let at = Contains-from_flat_map (nested_in plan.shapes h) evaluated d c in
        Contains-flat_map (nested_in plan.shapes h) (pairs plan h) at.0 d (are_pairs at.0 at.1) at.2)
        done.brings

    recalled_of_all : ((q : Pair) → Contains (pairs plan h) q
        → Contains evaluated q ⊎ AreRecalled old (nested_in plan.shapes h q))
        → AreRecalled new (nested_pairs plan h)
    recalled_of_all cases = record {
      each = λ d c.
          let at = Contains-from_flat_map (nested_in plan.shapes h) (pairs plan h) d c in
          elim (cases at.0 at.1) [
            | inl e ↦
                done.remembers.nested.each d
                (Contains-flat_map (nested_in plan.shapes h) evaluated at.0 d e at.2)
            | inr were ↦ (done.brings.known d).1 (inl (were.each d at.2))
          ];
    }

  -- where all of them are remembered, and no others were brought, these were exactly the fresh ones
  module _ (stay : List Pair) (all : AreAllRecalled old stay)
      (brings : Brings old new (nested_pairs plan h) m n)
      (nested : AreRecalled new (nested_pairs plan h)) where
    is_fresh : (q : Pair) → Contains brings.brought q ↔ Contains (fresh plan h stay) q
    is_fresh q = (
      λ c.
          Contains-filter (λ p. not (is_among_pairs stay p)) (nested_pairs plan h) q (brings.are_among q c)
          (is_not (is_among_pairs stay q)
          (λ e. brings.were_not q c ((all.each q).0 ((among_pairs stay q).0 e)))),
      λ c.
          let at = Contains-from_filter (λ p. not (is_among_pairs stay p)) (nested_pairs plan h) q c in
          elim ((brings.known q).0 (nested.each q at.0)) [
            | inl was ↦ absurd (true≢false
                (sym ((among_pairs stay q).1 ((all.each q).1 was)) ∙ not-true (is_among_pairs stay q) at.1))
            | inr d ↦ d
          ],
    )

    pub fresh_counted : n ≡ m + distinct_count same_pair (fresh plan h stay)
    fresh_counted =
        let left = fresh plan h stay in
        brings.counted
        ∙ ap (λ k. m + k)
        (length-from_keys same_pair_equiv brings.brought left brings.once
        (λ q. both_ways (is_member same_pair brings.brought q) (is_member same_pair left q)
        (λ e. (among_pairs left q).1 ((is_fresh q).0 ((among_pairs brings.brought q).0 e)))
        (λ e. (among_pairs brings.brought q).1 ((is_fresh q).1 ((among_pairs left q).0 e)))))

    pub fresh_recalled : AreAllRecalled new (stay ++ fresh plan h stay)
    fresh_recalled = record {
      each = λ q. (
        λ c. elim (Contains-append_cases stay (fresh plan h stay) q c) [
          | inl d ↦ (brings.known q).1 (inl ((all.each q).0 d))
          | inr d ↦ (brings.known q).1 (inr ((is_fresh q).1 d))
        ],
        λ there. elim ((brings.known q).0 there) [
          | inl was ↦ Contains-append_left stay (fresh plan h stay) q ((all.each q).1 was)
          | inr d ↦ Contains-append_right stay (fresh plan h stay) q ((is_fresh q).0 d)
        ],
      );
    }

-- ---- a change

module _ (plan : Planned) (g h : Graph) (changed : List Triple) (evaluated : List Pair)
    (same : SameMembers evaluated (touched_pairs plan g h changed)) where
  abbrev is_read : Pair → Bool
  is_read q = is_any_touched changed (pair_reads plan.shapes g q)

  abbrev is_touched : Pair → Bool
  is_touched q = not (is_among_pairs (pairs plan g) q) || is_read q

  are_pairs : (q : Pair) → Contains evaluated q → Contains (pairs plan h) q
  are_pairs q c = (Contains-from_filter is_touched (pairs plan h) q ((same.each q).0 c)).0

  -- a pair that was not evaluated was one before, and its reads are untouched
  was_pair : (q : Pair) → Contains (pairs plan h) q → (Contains evaluated q → ⊥)
      → Contains (pairs plan g) q × (is_read q ≡ false)
  was_pair q c free =
      let passes : is_touched q ≡ true → ⊥ =
      λ e. free ((same.each q).1 (Contains-filter is_touched (pairs plan h) q c e)) in
      let among = is_among_pairs (pairs plan g) q in (
        elim (pair_or_not (pairs plan g) q) [
          | inl held ↦ held
          | inr absent ↦ absurd (passes (or_left (not among) (is_read q)
              (is_not among (λ e. absent ((among_pairs (pairs plan g) q).0 e)))))
        ],
        not-true (is_read q) (is_not (is_read q) (λ e. passes (or_right (not among) (is_read q) e))),
      )

-- exactly the fresh pairs were counted, and what is remembered is what is to be kept
pub renews_recall : ChangesLeaveWhatStays → (plan : Planned) (g h : Graph) (changed : List Triple)
    (first masked last : RecallState) (evaluated : List Pair) (before after : ℕ)
    → IsChange plan.shapes g h changed first masked
    → RemembersNested plan.shapes g (pairs plan g) (recalled first)
    → BringsNested plan.shapes h (recalled masked) (recalled last) evaluated before after
    → SameMembers evaluated (touched_pairs plan g h changed)
    → ((q : Pair) → Contains (pairs plan h) q → q.node < length h.terms)
    → RenewsRecall plan g h changed (recalled first) (recalled last) before after
renews_recall leave plan g h changed first masked last evaluated before after is remembers done same inside =
    let left = leave plan.shapes g h changed first masked is in
    let others = λ (q : Pair) (c : Contains (pairs plan h) q) (free : Contains evaluated q → ⊥).
    let was = was_pair plan g h changed evaluated same q c free in
    left.nested q (subst (λ terms. q.node < length terms) is.terms (inside q c)) was.1
    (nested_recalled (pairs plan g) remembers q was.0) in
    let brings = brings_of_all plan h (recalled masked) (recalled last) before after evaluated
    done (are_pairs plan g h changed evaluated same) in
    let nested = recalled_of_all plan h (recalled masked) (recalled last) before after evaluated done
    (λ q c. elim (pair_or_not evaluated q) [ inl e ↦ inl e | inr free ↦ inr (others q c free) ]) in
    record {
      remembers = record { recall = done.remembers.recall; nested = nested };
      brings = record {
        counted = λ kept all.
            fresh_counted plan h (recalled masked) (recalled last) before after
            (staying plan.shapes g changed kept) (left.stays kept all) brings nested;
        kept = λ kept all.
            fresh_recalled plan h (recalled masked) (recalled last) before after
            (staying plan.shapes g changed kept) (left.stays kept all) brings nested;
      };
    }
