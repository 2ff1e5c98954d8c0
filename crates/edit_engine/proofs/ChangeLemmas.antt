-- What a change touches, and what that makes of targets and pairs.
use Rattle.std.specs.Prelude.{◌≡◌, ℕ, ◌<◌, true, not, ◌||◌, nat_eq, List, [], ◌++◌, Option}
use Rattle.std.specs.Prelude.{Some, None, flat_map, length, All, Contains, ◌↔◌}
use Rattle.std.specs.List.{IsDistinct}
use Rattle.std.proofs.Common.{refl, sym, ap, ◌∙◌, subst, inl, inr, true≢false}
use Rattle.std.proofs.lemmas.Bool.{not-true}
use Rattle.std.proofs.lemmas.List.{map-append}
use Rattle.std.proofs.lemmas.List.Elements.{All-append, Contains-append_left, Contains-append_right}
use Rattle.std.proofs.lemmas.List.Elements.{Contains-append_cases}
use Rattle.shx_term.specs.InOrder.{Lists}
use Rattle.shx_term.specs.Members.{SameMembers}
use Rattle.shx_term.specs.declared.triple.Triple.{Triple}
use Rattle.shx_term.proofs.MemberLemmas.{All_of_each, Contains-filter, Contains-from_filter}
use Rattle.shx_term.proofs.MemberLemmas.{Contains-map}
use Rattle.shx_term.proofs.MemberLemmas.{each_of_All}
use Rattle.graph_view.specs.declared.key.Key.{Key}
use Rattle.graph_view.specs.Agree.{Agree, IsUntouched}
use Rattle.graph_view.specs.Graph.{Graph}
use Rattle.graph_view.specs.Key.{Touches}
use Rattle.graph_view.specs.Patched.{IsBeside, patched}
use Rattle.graph_view.specs.Valid.{IsValidTriple, IsValidView}
use Rattle.graph_view.proofs.AgreeLemmas.{Agree-fewer}
use Rattle.graph_view.proofs.PatchedLemmas.{IsDistinct-append, is_not}
use Rattle.graph_view.proofs.SameGraphLemmas.{IsDistinct-filter}
use Rattle.graph_view.proofs.ValidLemmas.{AllKnown-valid}
use Rattle.comp_core.specs.declared.pair.Pair.{Pair}
use Rattle.comp_core.specs.Pairs.{same_pair, same_pair_equiv, same_pair_exact}
use Rattle.shape_eval.specs.Laws.{IsSameTarget, TargetsDependOnReads}
use Rattle.shape_eval.specs.Plan.{IsKnownPlan, Planned}
use Rattle.shape_eval.specs.Report.{pairs}
use Rattle.shape_eval.specs.Results.{pair_reads}
use Rattle.shape_eval.specs.Targets.{target_nodes, target_reads}
use Rattle.shape_eval.proofs.TargetLemmas.{TriplesHeld}
use Rattle.read_records.specs.declared.reader.Reader.{Reader}
use Rattle.read_records.specs.declared.reader.Reader.TheVariants.{OfPair, OfTarget}
use Rattle.read_records.specs.Reader.{reader_cmp}
use Rattle.read_records.specs.Recall.{RecallState}
use Rattle.read_records.specs.Records.{IsReachedBy, Recorded, reads_of}
use Rattle.edit_engine.specs.declared.renewal.Evaluated.{Evaluated}
use Rattle.edit_engine.specs.declared.renewal.Renewal.{Renewal}
use Rattle.edit_engine.specs.declared.renewal.TargetReads.{TargetReads}
use Rattle.edit_engine.specs.MayBeAsked.{MayBeAsked}
use Rattle.edit_engine.specs.Pairs.{IsKnownPair, pairs_of}
use Rattle.edit_engine.specs.Recorded.{AreRecorded}
use Rattle.edit_engine.specs.Renewal.{IsDifference, IsRenewal, IsRight, pairs_evaluated}
use Rattle.edit_engine.specs.Renewal.{shapes_renewed}
use Rattle.edit_engine.specs.Touched.{is_among_pairs, is_any_touched, touched_pairs}
use Rattle.edit_engine.specs.inner.Parts.{Evaluates, RenewsReads, RenewsTargets}
use Rattle.edit_engine.specs.inner.Parts.{SameTargets}
use Rattle.edit_engine.specs.inner.Parts.{pairs_staying, reader_pairs, targets_among}
use Rattle.edit_engine.proofs.KnownLemmas.{pair_known}
use Rattle.edit_engine.proofs.KnownPairLemmas.{node_known}
use Rattle.edit_engine.proofs.PairLemmas.{among_pairs, pair_or_not}
use Rattle.edit_engine.proofs.ReachedReaderLemmas.{Reaches, pair_reached, reached_record, target_reached}
use Rattle.edit_engine.proofs.RenewedPairLemmas.{AreApart-difference, AreApart-from, AreApart-of_all}
use Rattle.edit_engine.proofs.RenewedPairLemmas.{among_or_not}
use Rattle.edit_engine.proofs.ReaderLemmas.{Contains-pairs_among, Contains-targets_among, pairs_distinct}
use Rattle.edit_engine.proofs.ReaderLemmas.{targets_distinct}
use Rattle.edit_engine.proofs.TestLemmas.{or_cases, or_left, or_right}
use Rattle.edit_engine.proofs.TouchLemmas.{HasTouched, touched_test}

-- ---- touched keys

-- keys that no triple touches are beside the change
untouched : (added removed : List Triple) (keys : List Key)
    → (is_any_touched (added ++ removed) keys ≡ true → ⊥) → (key : Key) → Contains keys key
    → IsBeside added removed key
untouched added removed keys none key c =
    let of = λ (t : Triple) (d : Contains (added ++ removed) t) (h : Touches t key).
    let has : HasTouched (added ++ removed) keys =
    record { triple = t; changes = d; touched = (key, (c, h)) } in
    none ((touched_test (added ++ removed) keys).1 has) in (
      All_of_each (λ t. IsUntouched t key) added (λ t d. of t (Contains-append_left added removed t d)),
      All_of_each (λ t. IsUntouched t key) removed (λ t d. of t (Contains-append_right added removed t d)),
    )

-- ---- a change, and the readers that it touches

pub record IsChange (plan : Planned) (g h : Graph) (added removed : List Triple) (state : Recorded)
    (readers : List Reader) : Type 0 where
  pub asked : MayBeAsked plan g
  pub recorded : AreRecorded plan.shapes plan.targeted g state
  pub first : RecallState
  pub answers : List Pair
  pub reaches : Reaches plan.shapes g (pairs plan g) (added ++ removed) first answers
  pub touched : Lists reader_cmp (IsReachedBy state (added ++ removed) answers) readers
  pub beside : Agree g h (IsBeside added removed)
  pub valid : IsValidView h
  pub terms : h.terms ≡ g.terms

-- the laws of a graph that is patched
abbrev pub BesideAgrees : Type 0
BesideAgrees = (g : Graph) (added removed : List Triple)
    → Agree g (patched g added removed) (IsBeside added removed)

abbrev pub PatchedIsValid : Type 0
PatchedIsValid = (g : Graph) (added removed : List Triple) → IsValidView g
    → All (IsValidTriple g.terms) added → IsValidView (patched g added removed)

pub IsChange-patched : {plan : Planned} {g h : Graph} {added removed : List Triple} {state : Recorded}
    {first : RecallState} {answers : List Pair} {readers found : List Reader} → BesideAgrees
    → PatchedIsValid → MayBeAsked plan g → AreRecorded plan.shapes plan.targeted g state
    → All (IsValidTriple g.terms) added → h ≡ patched g added removed
    → Reaches plan.shapes g (pairs plan g) (added ++ removed) first answers → readers ≡ found
    → Lists reader_cmp (IsReachedBy state (added ++ removed) answers) found
    → IsChange plan g h added removed state readers
IsChange-patched {plan} {g} {h} {added} {removed} {state} {first} {answers} {readers} {found} beside valid
    asked recorded valid_added is reaches same touched =
    subst (IsChange plan g h added removed state) (sym same)
    (subst (λ (k : Graph). IsChange plan g k added removed state found) (sym is) (record {
      asked = asked;
      recorded = recorded;
      first = first;
      answers = answers;
      reaches = reaches;
      touched = touched;
      beside = beside g added removed;
      valid = valid g added removed asked.valid valid_added;
      terms = refl;
    }))

module _ {plan : Planned} {g h : Graph} {added removed : List Triple} {state : Recorded}
    {readers : List Reader} (change : IsChange plan g h added removed state readers) where
  is_some : {X : Type 0} (o : Option X) (x : X) → o ≡ Some x → o ≡ None → ⊥
  is_some o x e n = cc

  -- of whoever has no record nothing is touched
  no_reader : (r : Reader) → reads_of state r ≡ None
      → IsReachedBy state (added ++ removed) change.answers r → ⊥
  no_reader r none h =
      let has = reached_record state (added ++ removed) change.answers r h in
      is_some (reads_of state r) has.0 has.1 none

  -- the targets among the readers are those whose reads are touched
  target_touched : (n : ℕ) → Contains (targets_among readers) n
      ↔ (Contains plan.targeted n × (is_any_touched (added ++ removed) (target_reads plan.shapes g n) ≡ true))
  target_touched n =
      let among = Contains-targets_among readers n in
      let own = change.touched.each (OfTarget n) in
      let changed = added ++ removed in
      let reached = λ (t : Contains plan.targeted n).
      target_reached state changed change.answers plan.shapes g n (change.recorded.targets n t) in (
        λ c.
            let h = own.0 (among.0 c) in
            elim (among_or_not n plan.targeted) [
              | inl t ↦ (t, (reached t).0 h)
              | inr no_target ↦
                  absurd (no_reader (OfTarget n) (change.recorded.no_target n no_target) h)
            ],
        λ k. among.1 (own.1 ((reached k.0).1 k.1)),
      )

  -- and so are the pairs
  pair_touched : (p : Pair) → Contains (flat_map reader_pairs readers) p
      ↔ (Contains (pairs plan g) p × (is_any_touched (added ++ removed) (pair_reads plan.shapes g p) ≡ true))
  pair_touched p =
      let among = Contains-pairs_among readers p in
      let own = change.touched.each (OfPair p) in
      let reached = λ (t : Contains (pairs plan g) p).
      pair_reached change.reaches state p
      (node_known plan.shapes g (AllKnown-valid g change.asked.valid) change.asked.known plan.targeted p t)
      (change.recorded.pairs p t) t in (
        λ c.
            let h = own.0 (among.0 c) in
            elim (pair_or_not (pairs plan g) p) [
              | inl t ↦ (t, (reached t).0 h)
              | inr no_pair ↦ absurd (no_reader (OfPair p) (change.recorded.no_pair p no_pair) h)
            ],
        λ k. among.1 (own.1 ((reached k.0).1 k.1)),
      )

  -- ---- what is asked of the calls

  pub targets_within : All (λ n. n < length plan.shapes) (targets_among readers)
  targets_within =
      All_of_each (λ n. n < length plan.shapes) (targets_among readers) (λ n c.
      each_of_All (λ m. m < length plan.shapes) plan.targeted change.asked.within n
      ((target_touched n).0 c).0)

  pub targets_once : IsDistinct nat_eq (targets_among readers)
  targets_once = targets_distinct readers change.touched.sorted

  pub plan_known : IsKnownPlan h.terms plan.shapes
  plan_known = subst (λ terms. IsKnownPlan terms plan.shapes) (sym change.terms) change.asked.known

  module _ (held : TriplesHeld) where
    pub staying_known : (leaving : List Pair)
        → All (IsKnownPair plan.shapes h) (pairs_staying readers leaving)
    staying_known leaving = All_of_each (IsKnownPair plan.shapes h) (pairs_staying readers leaving) (λ p c.
        let stays = λ (q : Pair). not (is_among_pairs leaving q) in
        let kept = Contains-from_filter stays (flat_map reader_pairs readers) p c in
        let old = pair_known held g (AllKnown-valid g change.asked.valid) plan.shapes change.asked.known
        plan.targeted change.asked.within p ((pair_touched p).0 kept.0).0 in
        record {
          shape = old.shape;
          node = subst (λ terms. p.node < length terms) (sym change.terms) old.node;
        })

    pub entering_known : (entering gone : List Pair)
        → IsDifference same_pair (pairs_of plan.shapes (targets_among readers) h) gone entering
        → All (IsKnownPair plan.shapes h) entering
    entering_known entering gone is = All_of_each (IsKnownPair plan.shapes h) entering (λ p c.
        pair_known held h (AllKnown-valid h change.valid) plan.shapes plan_known (targets_among readers)
        targets_within p ((is.each p).0 c).0)

  -- ---- the renewal

  targeted_of : (n : ℕ) → Contains (targets_among readers) n → Contains plan.targeted n
  targeted_of n c = ((target_touched n).0 c).0

  module _ (depend : TargetsDependOnReads) where
    -- a target that is not touched has the same nodes and reads
    same_target : (n : ℕ) → Contains plan.targeted n → (Contains (targets_among readers) n → ⊥)
        → IsSameTarget plan.shapes g h n
    same_target n targeted not_touched =
        let keys = target_reads plan.shapes g n in
        let none : is_any_touched (added ++ removed) keys ≡ true → ⊥ =
        λ e. not_touched ((target_touched n).1 (targeted, e)) in
        depend plan.shapes g h (AllKnown-valid g change.asked.valid) (AllKnown-valid h change.valid)
        change.asked.known n (Agree-fewer (Contains keys) (untouched added removed keys none) change.beside)

    pub entering_of_all : (entering : List Pair)
        → IsDifference same_pair (pairs_of plan.shapes (targets_among readers) h)
        (pairs_of plan.shapes (targets_among readers) g) entering
        → IsDifference same_pair (pairs plan h) (pairs plan g) entering
    entering_of_all entering is =
        let after = target_nodes plan.shapes h in
        let before = target_nodes plan.shapes g in
        AreApart-difference after before plan.targeted entering is.once
        (AreApart-of_all after before (targets_among readers) plan.targeted entering targeted_of
        (λ n t no_member. sym (same_target n t no_member).nodes)
        (AreApart-from after before (targets_among readers) entering is))

    pub leaving_of_all : (leaving : List Pair)
        → IsDifference same_pair (pairs_of plan.shapes (targets_among readers) g)
        (pairs_of plan.shapes (targets_among readers) h) leaving
        → IsDifference same_pair (pairs plan g) (pairs plan h) leaving
    leaving_of_all leaving is =
        let after = target_nodes plan.shapes h in
        let before = target_nodes plan.shapes g in
        AreApart-difference before after plan.targeted leaving is.once
        (AreApart-of_all before after (targets_among readers) plan.targeted leaving targeted_of
        (λ n t no_member. (same_target n t no_member).nodes)
        (AreApart-from before after (targets_among readers) leaving is))

  -- the pairs that stay and those that enter are the touched pairs
  module _ (entering leaving : List Pair)
      (enter : IsDifference same_pair (pairs plan h) (pairs plan g) entering)
      (leave : IsDifference same_pair (pairs plan g) (pairs plan h) leaving) where
    staying : (p : Pair) → Contains (pairs_staying readers leaving) p
        ↔ (Contains (pairs plan g) p × Contains (pairs plan h) p
        × (is_any_touched (added ++ removed) (pair_reads plan.shapes g p) ≡ true))
    staying p =
        let test = λ (q : Pair). not (is_among_pairs leaving q) in
        let all = flat_map reader_pairs readers in (
          λ c.
              let kept = Contains-from_filter test all p c in
              let old = (pair_touched p).0 kept.0 in
              let absent = not-true (is_among_pairs leaving p) kept.1 in
              elim (pair_or_not (pairs plan h) p) [
                | inl new ↦ (old.0, new, old.1)
                | inr gone ↦
                    absurd (true≢false
                    (sym ((among_pairs leaving p).1 ((leave.each p).1 (old.0, gone))) ∙ absent))
              ],
          λ k.
              Contains-filter test all p ((pair_touched p).1 (k.0, k.2))
              (is_not (is_among_pairs leaving p)
              (λ e. ((leave.each p).0 ((among_pairs leaving p).0 e)).1 k.1)),
        )

    evaluated_same : SameMembers (pairs_staying readers leaving ++ entering)
        (touched_pairs plan g h (added ++ removed))
    evaluated_same = record {
      each = λ p.
          let stay = pairs_staying readers leaving in
          let old = is_among_pairs (pairs plan g) p in
          let touch = is_any_touched (added ++ removed) (pair_reads plan.shapes g p) in
          let test = λ (q : Pair). not (is_among_pairs (pairs plan g) q)
          || is_any_touched (added ++ removed) (pair_reads plan.shapes g q) in (
            λ c. elim (Contains-append_cases stay entering p c) [
              | inl d ↦
                  let k = (staying p).0 d in
                  Contains-filter test (pairs plan h) p k.1 (or_right (not old) touch k.2)
              | inr d ↦
                  let k = (enter.each p).0 d in
                  Contains-filter test (pairs plan h) p k.0
                  (or_left (not old) touch (is_not old (λ e. k.1 ((among_pairs (pairs plan g) p).0 e))))
            ],
            λ c.
                let kept = Contains-from_filter test (pairs plan h) p c in
                elim (pair_or_not (pairs plan g) p) [
                  | inl there ↦ elim (or_cases (not old) touch kept.1) [
                    | inl none ↦
                        absurd (true≢false
                        (sym ((among_pairs (pairs plan g) p).1 there) ∙ not-true old none))
                    | inr touched ↦
                        Contains-append_left stay entering p ((staying p).1 (there, kept.0, touched))
                  ]
                  | inr new ↦ Contains-append_right stay entering p ((enter.each p).1 (kept.0, new))
                ],
          );
    }

    evaluated_once : IsDistinct same_pair (pairs_staying readers leaving ++ entering)
    evaluated_once =
        let test = λ (q : Pair). not (is_among_pairs leaving q) in
        IsDistinct-append same_pair same_pair_equiv same_pair_exact (pairs_staying readers leaving) entering
        (IsDistinct-filter test same_pair (flat_map reader_pairs readers)
        (pairs_distinct readers change.touched.sorted)) enter.once
        (λ p c d. ((enter.each p).0 d).1 ((staying p).0 c).0)

  pub touched_are : TargetsDependOnReads → {made : Renewal}
      → RenewsTargets plan.shapes g h (targets_among readers) made
      → SameMembers (pairs_staying readers made.leaving.keys ++ made.entering.items)
      (touched_pairs plan g h (added ++ removed))
  touched_are depend {made} renews =
      evaluated_same made.entering.items made.leaving.keys
      (entering_of_all depend made.entering.items renews.entering)
      (leaving_of_all depend made.leaving.keys renews.leaving)

  -- all parts of a renewal together
  pub IsRenewal-made : TargetsDependOnReads → {made staying evaluated : Renewal}
      → RenewsTargets plan.shapes g h (targets_among readers) made → made.evaluated.items ≡ []
      → Evaluates plan.shapes h made.evaluated.items staying.evaluated.items
      (pairs_staying readers made.leaving.keys) → SameTargets made staying
      → Evaluates plan.shapes h staying.evaluated.items evaluated.evaluated.items staying.entering.items
      → SameTargets staying evaluated → IsRenewal plan g h (added ++ removed) evaluated
  IsRenewal-made depend {made} {staying} {evaluated} renews none first same_first second same_second =
      let targets = same_second.targets ∙ same_first.targets in
      let entering = same_second.entering ∙ same_first.entering in
      let leaving = same_second.leaving ∙ same_first.leaving in
      let reads = subst (RenewsReads plan.shapes g h (targets_among readers)) (sym targets) renews.reads in
      let renewed = shapes_renewed evaluated.targets.items in
      let enter = entering_of_all depend made.entering.items renews.entering in
      let leave = leaving_of_all depend made.leaving.keys renews.leaving in
      let stay = pairs_staying readers made.leaving.keys in
      let all : evaluated.evaluated.items ≡ first.more ++ second.more =
      second.new_is ∙ ap (λ es. es ++ second.more) (first.new_is ∙ ap (λ es. es ++ first.more) none) in
      let pairs_are : pairs_evaluated evaluated.evaluated.items ≡ stay ++ made.entering.items =
      ap pairs_evaluated all
      ∙ map-append (λ (e : Evaluated). e.pair) first.more second.more
      ∙ ap (λ ps. ps ++ pairs_evaluated second.more) first.pairs
      ∙ ap (λ ps. stay ++ ps) (second.pairs ∙ same_first.entering) in
      record {
        targets = All_of_each (λ (t : TargetReads). Contains plan.targeted t.shape) evaluated.targets.items
            (λ t c. targeted_of t.shape
            (each_of_All (Contains (targets_among readers)) renewed reads.among t.shape
            (Contains-map (λ (u : TargetReads). u.shape) evaluated.targets.items t c)));
        targets_once = reads.once;
        reads = reads.now;
        other_targets = λ n targeted not_renewed.
            elim (among_or_not n (targets_among readers)) [
              | inl c ↦ reads.others n c not_renewed
              | inr no_member ↦ (same_target depend n targeted no_member).reads
            ];
        entering = subst (IsDifference same_pair (pairs plan h) (pairs plan g)) (sym entering) enter;
        leaving = subst (IsDifference same_pair (pairs plan g) (pairs plan h)) (sym leaving) leave;
        pairs = subst (λ ps. SameMembers ps (touched_pairs plan g h (added ++ removed))) (sym pairs_are)
            (touched_are depend renews);
        pairs_once = subst (IsDistinct same_pair) (sym pairs_are)
            (evaluated_once made.entering.items made.leaving.keys enter leave);
        right = subst (All (IsRight plan.shapes h)) (sym all)
            (All-append (IsRight plan.shapes h) first.more second.more first.right second.right);
      }
