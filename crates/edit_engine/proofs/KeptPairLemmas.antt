-- A change of a graph, and what is remembered beside it: what is masked, and what stays.
use Rattle.std.specs.Prelude.{◌≡◌, ◌<◌, Bool, true, false, not, List, Option, Some, None}
use Rattle.std.specs.Prelude.{length, Contains, IsSome, is_some}
use Rattle.std.proofs.Common.{refl, sym, ap, ◌∙◌, subst, inl, inr, true≢false}
use Rattle.std.proofs.lemmas.Bool.{not-true}
use Rattle.shx_term.specs.declared.triple.Triple.{Triple}
use Rattle.shx_term.proofs.MemberLemmas.{Contains-filter, Contains-from_filter}
use Rattle.shx_term.proofs.SetLemmas.{SameMembers-then}
use Rattle.graph_view.specs.Agree.{Agree}
use Rattle.graph_view.specs.Graph.{Graph}
use Rattle.graph_view.proofs.PatchedLemmas.{is_not}
use Rattle.shx_term.specs.Members.{SameMembers}
use Rattle.comp_core.specs.declared.pair.Pair.{Pair}
use Rattle.shape_eval.specs.declared.shape.PlanShape.{PlanShape}
use Rattle.shape_eval.specs.Laws.{NestedDependOnReads, NestedReadsAreRead, OwnReadsDependOnThemselves}
use Rattle.shape_eval.specs.Laws.{ResultsDependOnReads}
use Rattle.shape_eval.specs.Nested.{nested_in}
use Rattle.shape_eval.specs.Own.{own_reads}
use Rattle.shape_eval.specs.Recalled.{AreRecalled, IsRecallOf}
use Rattle.shape_eval.specs.Results.{pair_reads}
use Rattle.read_records.specs.declared.reader.Reader.TheVariants.{OfPair}
use Rattle.read_records.specs.Recall.{Answer, IsReached, RecallState, kept_of, recalled, staged_of}
use Rattle.read_records.specs.Store.{Notes, changed_to, note_at}
use Rattle.edit_engine.specs.Remembered.{AreAllRecalled, staying}
use Rattle.edit_engine.specs.Touched.{is_any_touched}
use Rattle.edit_engine.specs.inner.Recall.{IsChange, Remains}
use Rattle.edit_engine.proofs.ReachedLemmas.{ReadLaws, own_touched, reached_touched, touched_reached}
use Rattle.edit_engine.proofs.TouchLemmas.{none_touched, touched_test}

-- a pair that is remembered is so by an answer
pub some_answer : (o : Option Answer) → IsSome o → (a : Answer) × (o ≡ Some a)
some_answer None e = absurd (true≢false (sym e))
some_answer (Some a) e = (a, refl)

module _ (shapes : List PlanShape) (g h : Graph) (changed : List Triple) (first now : RecallState)
    (is : IsChange shapes g h changed first now) (laws : ReadLaws shapes g) where
  abbrev is_touched : Pair → Bool
  is_touched p = is_any_touched changed (pair_reads shapes g p)

  is_off : (p : Pair) → (is_touched p ≡ true → ⊥) → is_touched p ≡ false
  is_off p free = not-true (is_touched p) (is_not (is_touched p) free)

  -- ---- what is masked

  unstaged : (p : Pair) → staged_of first p ≡ None
  unstaged p = ap (λ (notes : Notes Answer). note_at notes (OfPair p)) is.settled

  at_first : (p : Pair) → recalled first p ≡ kept_of first p
  at_first p = ap (λ change. changed_to change (kept_of first p)) (unstaged p)

  recall_kept : IsRecallOf SameMembers shapes g (kept_of first)
  recall_kept = subst (IsRecallOf SameMembers shapes g) (λ i p. at_first p i) is.recall

  module _ (p : Pair) where
    -- where nothing is staged, the same is remembered as before
    same_recalled : staged_of now p ≡ None → recalled now p ≡ recalled first p
    same_recalled none =
        ap (λ change. changed_to change (kept_of now p)) none ∙ is.kept.each p ∙ sym (at_first p)

    masked_none : staged_of now p ≡ Some None → recalled now p ≡ None
    masked_none masked = ap (λ change. changed_to change (kept_of now p)) masked

    -- a triple reaches the pair exactly where it touches its reads
    is_reached : IsReached first changed p → is_touched p ≡ true
    is_reached reached =
        (touched_test changed (pair_reads shapes g p)).1
        (reached_touched laws first changed recall_kept p reached)

    reached_if : IsSome (recalled first p) → is_touched p ≡ true → IsReached first changed p
    reached_if there touched =
        touched_reached laws first changed recall_kept p (ap is_some (sym (at_first p)) ∙ there)
        ((touched_test changed (pair_reads shapes g p)).0 touched)

    -- what is still remembered was remembered before, and its reads are untouched
    was_recalled : (a : Answer) → recalled now p ≡ Some a
        → (recalled first p ≡ Some a) × (is_touched p ≡ true → ⊥)
    was_recalled a e = elim (is.at_most.each p) [
      | inl same ↦
          let none = same ∙ unstaged p in
          let was = sym (same_recalled none) ∙ e in (
            was,
            λ touched. is_masked none (is.masked.each p (reached_if (ap is_some was) touched) (unstaged p)),
          )
      | inr m ↦ let gone = masked_none m.now in absurd (is_none gone e)
    ]
      where
        is_masked : {o : Option (Option Answer)} → o ≡ None → o ≡ Some None → ⊥
        is_masked none masked = cc

        is_none : {o : Option Answer} {b : Answer} → o ≡ None → o ≡ Some b → ⊥
        is_none none some = cc

    -- and what was remembered, and is untouched, is
    still_recalled : IsSome (recalled first p) → is_touched p ≡ false → IsSome (recalled now p)
    still_recalled was off = elim (is.at_most.each p) [
      | inl same ↦ ap is_some (same_recalled (same ∙ unstaged p)) ∙ was
      | inr m ↦ absurd (true≢false (sym (is_reached m.reached) ∙ off))
    ]

  -- ---- which pairs stay

  stays_exactly : (kept : List Pair) → AreAllRecalled (recalled first) kept
      → AreAllRecalled (recalled now) (staying shapes g changed kept)
  stays_exactly kept all = record {
    each = λ p. (
      λ c.
          let at = Contains-from_filter (λ q. not (is_touched q)) kept p c in
          still_recalled p ((all.each p).0 at.0) (not-true (is_touched p) at.1),
      λ there.
          let a = some_answer (recalled now p) there in
          let was = was_recalled p a.0 a.1 in
          Contains-filter (λ q. not (is_touched q)) kept p ((all.each p).1 (ap is_some was.0))
          (is_not (is_touched p) was.1),
    );
  }

  -- ---- what is remembered is right of the new graph, and closed

  module _ (results_depend : ResultsDependOnReads) (own_depend : OwnReadsDependOnThemselves)
      (nested_depend : NestedDependOnReads) (nested_read : NestedReadsAreRead) where
    agree_at : (p : Pair) → is_touched p ≡ false → Agree g h (Contains (pair_reads shapes g p))
    agree_at p off =
        is.differ (pair_reads shapes g p) (λ key c t d touches.
        none_touched changed (pair_reads shapes g p) off
        (record { triple = t; changes = d; touched = (key, (c, touches)) }))

    -- and so it is what is read for the pair itself
    own_same : (p : Pair) → p.node < length g.terms → is_touched p ≡ false
        → SameMembers (own_reads shapes g p) (own_reads shapes h p)
    own_same p node off =
        own_depend shapes is.lower g h is.before is.after is.plan p node
        (is.differ (own_reads shapes g p) (λ key c t d touches.
        none_touched changed (pair_reads shapes g p) off
        (own_touched laws.parts shapes is.lower g is.before is.plan changed p node
        (record { triple = t; changes = d; touched = (key, (c, touches)) }))))

    -- what is read for a nested pair is read for the pair, so where that is untouched it is
    below_untouched : (p d : Pair) → p.node < length g.terms → Contains (nested_in shapes g p) d
        → is_touched p ≡ false → is_touched d ≡ true → ⊥
    below_untouched p d node c off touched =
        let has = (touched_test changed (pair_reads shapes g d)).0 touched in
        let key = has.touched in
        none_touched changed (pair_reads shapes g p) off (record {
          triple = has.triple;
          changes = has.changes;
          touched = (
            key.0,
            (nested_read shapes is.lower g is.before is.plan p node d c key.0 key.1.0, key.1.1),
          );
        })

    -- of a pair whose reads are untouched the same pairs are nested, and all of them are still remembered
    nested_stay : (p : Pair) → p.node < length g.terms → is_touched p ≡ false
        → AreRecalled (recalled first) (nested_in shapes g p)
        → AreRecalled (recalled now) (nested_in shapes h p)
    nested_stay p node off nested = record {
      each = λ d c.
          let same = nested_depend shapes is.lower g h is.before is.after is.plan p node (agree_at p off) in
          let below = subst (λ ds. Contains ds d) (sym same) c in
          still_recalled d (nested.each d below) (is_off d (below_untouched p d node below off));
    }

    recall_after : IsRecallOf SameMembers shapes h (recalled now)
    recall_after = record {
      right = record {
        each = λ p a e.
            let was = was_recalled p a e in
            let right = is.recall.right.each p a was.0 in
            let off = is_off p was.1 in
            let same = results_depend shapes is.lower g h is.before is.after is.plan p right.node
            (agree_at p off) in
            record {
              rows = right.rows ∙ same.rows;
              reads = SameMembers-then right.reads (own_same p right.node off);
              node = subst (λ terms. p.node < length terms) (sym is.terms) right.node;
            };
      };
      closed = record {
        each = λ p there.
            let a = some_answer (recalled now p) there in
            let was = was_recalled p a.0 a.1 in
            nested_stay p (is.recall.right.each p a.0 was.0).node
            (is_off p was.1)
            (is.recall.closed.each p (ap is_some was.0));
      };
    }

    pub remains : Remains shapes g h changed first now
    remains = record { recall = recall_after; stays = stays_exactly; nested = nested_stay }
