-- A renewal of what is kept: once it is staged and made, all is kept of the other shapes or the other graph.
use Rattle.std.specs.Prelude.{◌≡◌, ℕ, ◌+◌, ◌<◌, ◌≤◌, nat_eq, List, [], Option, Some, None, length}
use Rattle.std.specs.Prelude.{slice_get, All, Contains, ◌↔◌}
use Rattle.std.specs.List.{IsDistinct}
use Rattle.std.proofs.Common.{sym, ap, ◌∙◌, subst, inl, inr, arith}
use Rattle.std.proofs.lemmas.List.Elements.{All-append, Contains-append_left}
use Rattle.std.proofs.lemmas.List.Elements.{Contains-append_cases}
use Rattle.shx_term.specs.Members.{SameMembers}
use Rattle.shx_term.specs.TermOrder.{same_term}
use Rattle.shx_term.specs.declared.term.Term.{Term}
use Rattle.shx_term.proofs.MemberLemmas.{All_of_each, Contains-from_map, each_of_All}
use Rattle.shx_term.proofs.SetLemmas.{SameMembers-then}
use Rattle.graph_view.specs.declared.key.Key.{Key}
use Rattle.graph_view.specs.Graph.{Graph, AllKnown}
use Rattle.graph_view.proofs.PatchedLemmas.{IsDistinct-append}
use Rattle.comp_core.specs.declared.pair.Pair.{Pair}
use Rattle.comp_core.specs.Laws.{SameAnswers}
use Rattle.comp_core.specs.Pairs.{same_pair, same_pair_equiv, same_pair_exact}
use Rattle.shape_eval.specs.declared.shape.PlanShape.{PlanShape}
use Rattle.shape_eval.specs.Own.{own_reads}
use Rattle.shape_eval.specs.Plan.{IsKnownPlan}
use Rattle.shape_eval.specs.Report.{at_shape}
use Rattle.shape_eval.specs.Results.{results}
use Rattle.shape_eval.specs.Targets.{target_reads}
use Rattle.read_records.specs.declared.reader.Reader.{Reader}
use Rattle.read_records.specs.declared.reader.Reader.TheVariants.{OfPair, OfTarget}
use Rattle.read_records.specs.Recall.{RecallState, kept_of}
use Rattle.read_records.specs.Records.{Commits, after_change, change_of, reads_of}
use Rattle.pair_results.specs.PairResults.{Commits as CommitsRows, rows_at}
use Rattle.edit_engine.specs.declared.renewal.Renewal.{Renewal}
use Rattle.edit_engine.specs.Pairs.{pairs_of}
use Rattle.edit_engine.specs.Recorded.{AreRecorded, Holds}
use Rattle.edit_engine.specs.Renewal.{IsReadNow, IsRight, pairs_evaluated, shapes_renewed}
use Rattle.edit_engine.specs.declared.kept.Kept.{Kept}
use Rattle.edit_engine.specs.inner.Kept.{AreResults, IsIdle, IsKeptOf}
use Rattle.edit_engine.specs.inner.Recall.{RemembersNested}
use Rattle.edit_engine.specs.inner.Staged.{IsBesideRenewal, IsStaged, MayBeStaged, pairs_renewed}
use Rattle.edit_engine.proofs.RenewedPairLemmas.{among_or_not}
use Rattle.edit_engine.proofs.KnownPairLemmas.{pair_known}
use Rattle.edit_engine.proofs.PairLemmas.{length-among, numbered_or_not, pair_or_not}
use Rattle.edit_engine.proofs.PutLemmas.{one_number}

-- records and results are kept of these shapes, and no others
pub record AreKept (shapes : List PlanShape) (ns : List ℕ) (g : Graph) (kept : Kept) : Type 0 where
  pub records : AreRecorded shapes ns g kept.records
  pub results : AreResults shapes ns g kept.results
  pub count : kept.pairs ≡ length (pairs_of shapes ns g)
  pub places : length kept.results.shapes ≡ length shapes

-- whatever is remembered beside them
pub AreKept-beside : {shapes : List PlanShape} {ns : List ℕ} {g : Graph} {kept : Kept} (recall : RecallState)
    → IsKeptOf shapes ns g kept → AreKept shapes ns g (record kept { recall = recall })
AreKept-beside recall is = record {
  records = is.records;
  results = is.results;
  count = is.count;
  places = is.places;
}

-- from some shapes in one graph to those in another with the same terms: whatever is not renewed is as it was
pub record Renews (shapes : List PlanShape) (ns ms : List ℕ) (g h : Graph) (renewal : Renewal) : Type 0 where
  pub terms : h.terms ≡ g.terms
  pub stay : (n : ℕ) → Contains ns n → Contains ms n
  pub targets : (n : ℕ) → Contains (shapes_renewed renewal.targets.items) n → Contains ms n
  pub targets_once : IsDistinct nat_eq (shapes_renewed renewal.targets.items)
  pub reads : All (IsReadNow shapes h) renewal.targets.items
  pub other_targets : (n : ℕ) → Contains ms n → (Contains (shapes_renewed renewal.targets.items) n → ⊥)
      → Contains ns n × SameMembers (target_reads shapes g n) (target_reads shapes h n)
  pub leaving_once : IsDistinct same_pair renewal.leaving.keys
  pub leaving : (p : Pair) → Contains renewal.leaving.keys p
      ↔ (Contains (pairs_of shapes ns g) p × (Contains (pairs_of shapes ms h) p → ⊥))
  pub evaluated_once : IsDistinct same_pair (pairs_evaluated renewal.evaluated.items)
  pub evaluated : (p : Pair) → Contains (pairs_evaluated renewal.evaluated.items) p
      → Contains (pairs_of shapes ms h) p
  pub right : All (IsRight shapes h) renewal.evaluated.items
  pub others : (p : Pair) → Contains (pairs_of shapes ms h) p
      → (Contains (pairs_evaluated renewal.evaluated.items) p → ⊥)
      → Contains (pairs_of shapes ns g) p
      × SameAnswers (results shapes g) (results shapes h) (own_reads shapes g) (own_reads shapes h) p
  pub count : length (pairs_of shapes ms h) + length renewal.leaving.keys
      ≡ length (pairs_of shapes ns g) + length renewal.entering.items

module _ (shapes : List PlanShape) (ns ms : List ℕ) (g h : Graph) (renewal : Renewal)
    (renews : Renews shapes ns ms g h renewal) where
  abbrev gone : List Pair
  gone = renewal.leaving.keys

  abbrev found_pairs : List Pair
  found_pairs = pairs_evaluated renewal.evaluated.items

  abbrev before : List Pair
  before = pairs_of shapes ns g

  abbrev after : List Pair
  after = pairs_of shapes ms h

  -- ---- it may be staged

  pub MayBeStaged-renews : (kept : Kept) → AllKnown g → AllKnown h → IsKnownPlan g.terms shapes
      → All (λ n. n < length shapes) ns → All (λ n. n < length shapes) ms → AreKept shapes ns g kept
      → MayBeStaged g.terms kept renewal
  MayBeStaged-renews kept known known' plan within within' is =
      let plan' = subst (λ ts. IsKnownPlan ts shapes) (sym renews.terms) plan in
      let old = λ (p : Pair) (c : Contains gone p).
      pair_known shapes g known plan ns within p ((renews.leaving p).0 c).0 in
      let new = λ (p : Pair) (c : Contains found_pairs p).
      pair_known shapes h known' plan' ms within' p (renews.evaluated p c) in
      record {
        targets_once = renews.targets_once;
        pairs_once = IsDistinct-append same_pair same_pair_equiv same_pair_exact gone found_pairs
            renews.leaving_once renews.evaluated_once
            (λ p c d. ((renews.leaving p).0 c).1 (renews.evaluated p d));
        known = All-append (λ p. p.node < length g.terms) gone found_pairs
            (All_of_each (λ p. p.node < length g.terms) gone (λ p c. (old p c).node))
            (All_of_each (λ p. p.node < length g.terms) found_pairs
            (λ p c. subst (λ ts. p.node < length ts) renews.terms (new p c).node));
        within = subst (λ n. All (λ p. p.shape < n) (pairs_renewed renewal)) (sym is.places)
            (All-append (λ p. p.shape < length shapes) gone found_pairs
            (All_of_each (λ p. p.shape < length shapes) gone (λ p c. (old p c).shape))
            (All_of_each (λ p. p.shape < length shapes) found_pairs (λ p c. (new p c).shape)));
        few = subst (λ n. length gone ≤ n) (sym is.count)
            (length-among gone before renews.leaving_once (λ p c. ((renews.leaving p).0 c).0));
      }

  -- ---- once it is made

  module _ (old mid new : Kept) (kept : AreKept shapes ns g old) (staged : IsStaged g.terms old mid renewal)
      (commits : Commits mid.records new.records) (rows : CommitsRows mid.results new.results) where
    -- what is recorded of a reader follows from what was staged for it
    recorded : (reader : Reader) (change : Option (Option (List Key))) → change_of mid.records reader ≡ change
        → reads_of new.records reader ≡ after_change change (reads_of old.records reader)
    recorded reader change is =
        commits.each reader
        ∙ ap (λ c. after_change c (reads_of mid.records reader)) is
        ∙ ap (after_change change) (staged.records.each reader)

    target_holds : (n : ℕ) → Contains ms n → Holds new.records (OfTarget n) (target_reads shapes h n)
    target_holds n c = elim (among_or_not n (shapes_renewed renewal.targets.items)) [
      | inl renewed ↦
          let at = Contains-from_map (λ target. target.shape) renewal.targets.items n renewed in
          let t = at.0 in
          subst (λ m. Holds new.records (OfTarget m) (target_reads shapes h m)) (sym at.2)
          (record {
            reads = t.reads;
            recorded = recorded (OfTarget t.shape) (Some (Some t.reads)) (staged.targets t at.1);
            same = (each_of_All (IsReadNow shapes h) renewal.targets.items renews.reads t at.1).reads;
          })
      | inr free ↦
          let was = renews.other_targets n c free in
          let holds = kept.records.targets n was.0 in
          record {
            reads = holds.reads;
            recorded = recorded (OfTarget n) None (staged.other_targets n free) ∙ holds.recorded;
            same = SameMembers-then holds.same was.1;
          }
    ]

    no_target : (n : ℕ) → (Contains ms n → ⊥) → reads_of new.records (OfTarget n) ≡ None
    no_target n free =
        recorded (OfTarget n) None (staged.other_targets n (λ c. free (renews.targets n c)))
        ∙ kept.records.no_target n (λ c. free (renews.stay n c))

    -- what stays is no pair of the renewal
    not_renewed : (p : Pair) → Contains after p → (Contains found_pairs p → ⊥)
        → Contains (pairs_renewed renewal) p → ⊥
    not_renewed p c free d = elim (Contains-append_cases gone found_pairs p d) [
      | inl left ↦ ((renews.leaving p).0 left).1 c
      | inr found ↦ free found
    ]

    pair_holds : (p : Pair) → Contains after p → Holds new.records (OfPair p) (own_reads shapes h p)
    pair_holds p c = elim (pair_or_not found_pairs p) [
      | inl is_found ↦
          let at = Contains-from_map (λ found. found.pair) renewal.evaluated.items p is_found in
          let found = at.0 in
          subst (λ q. Holds new.records (OfPair q) (own_reads shapes h q)) (sym at.2)
          (record {
            reads = found.answer.reads;
            recorded = recorded (OfPair found.pair) (Some (Some found.answer.reads))
                (staged.evaluated found at.1);
            same = (each_of_All (IsRight shapes h) renewal.evaluated.items renews.right found at.1).reads;
          })
      | inr free ↦
          let was = renews.others p c free in
          let holds = kept.records.pairs p was.0 in
          record {
            reads = holds.reads;
            recorded =
                recorded (OfPair p) None (staged.other_pairs p (not_renewed p c free)) ∙ holds.recorded;
            same = SameMembers-then holds.same was.1.reads;
          }
    ]

    no_pair : (p : Pair) → (Contains after p → ⊥) → reads_of new.records (OfPair p) ≡ None
    no_pair p free = elim (pair_or_not gone p) [
      | inl left ↦ recorded (OfPair p) (Some None) (staged.leaving p left)
      | inr stays ↦
          let beside : Contains (pairs_renewed renewal) p → ⊥ = λ d.
          elim (Contains-append_cases gone found_pairs p d) [
            | inl left ↦ stays left
            | inr found ↦ free (renews.evaluated p found)
          ] in
          recorded (OfPair p) None (staged.other_pairs p beside)
          ∙ kept.records.no_pair p (λ c. stays ((renews.leaving p).1 (c, free)))
    ]

    module _ (once : IsDistinct same_term g.terms) where
      -- a pair that is not renewed is the only one at its node
      beside_pair : (n id : ℕ) (node : Term) → slice_get g.terms id ≡ Some node
          → (Contains (pairs_renewed renewal) (at_shape n id) → ⊥) → IsBesideRenewal g.terms renewal n node
      beside_pair n id node at free other there c =
          free (subst (λ i. Contains (pairs_renewed renewal) (at_shape n i))
          (one_number g.terms once node other id there at) c)

      pair_rows : (p : Pair) (node : Term) → Contains after p → slice_get g.terms p.node ≡ Some node
          → rows_at new.results p.shape node ≡ results shapes h p
      pair_rows p node c at = elim (pair_or_not found_pairs p) [
        | inl is_found ↦
            let found = Contains-from_map (λ found. found.pair) renewal.evaluated.items p is_found in
            let here = subst (λ (q : Pair). slice_get g.terms q.node ≡ Some node) found.2 at in
            subst (λ (q : Pair). rows_at new.results q.shape node ≡ results shapes h q) (sym found.2)
            (rows.each found.0.pair.shape node
            ∙ staged.evaluated_rows found.0 node found.1 here
            ∙ (each_of_All (IsRight shapes h) renewal.evaluated.items renews.right found.0 found.1).rows)
        | inr free ↦
            let was = renews.others p c free in
            rows.each p.shape node
            ∙ staged.other_rows p.shape node (beside_pair p.shape p.node node at (not_renewed p c free))
            ∙ kept.results.pairs p node was.0 at
            ∙ was.1.rows
      ]

      -- where no pair is renewed, what is kept is what was
      rows_were : (n : ℕ) (node : Term) → IsBesideRenewal g.terms renewal n node
          → ((id : ℕ) → slice_get g.terms id ≡ Some node → Contains before (at_shape n id) → ⊥)
          → rows_at new.results n node ≡ []
      rows_were n node beside none =
          rows.each n node ∙ staged.other_rows n node beside ∙ kept.results.others n node none

      no_rows_at : (n : ℕ) (node : Term)
          → ((id : ℕ) → slice_get g.terms id ≡ Some node → Contains after (at_shape n id) → ⊥)
          → rows_at new.results n node ≡ []
      no_rows_at n node none = elim (numbered_or_not g.terms node) [
        | inl held ↦ elim (pair_or_not (pairs_renewed renewal) (at_shape n held.0)) [
          | inl renewed ↦ elim (Contains-append_cases gone found_pairs (at_shape n held.0) renewed) [
            | inl left ↦ rows.each n node ∙ staged.leaving_rows (at_shape n held.0) node left held.1
            | inr found ↦ absurd (none held.0 held.1 (renews.evaluated (at_shape n held.0) found))
          ]
          | inr free ↦ rows_were n node (beside_pair n held.0 node held.1 free) (λ id at c.
              let same = one_number g.terms once node id held.0 at held.1 in
              let here = subst (λ i. Contains before (at_shape n i)) same c in
              free (Contains-append_left gone found_pairs (at_shape n held.0)
              ((renews.leaving (at_shape n held.0)).1 (here, none held.0 held.1))))
        ]
        | inr free ↦ rows_were n node (λ id at c. free id at) (λ id at c. free id at)
      ]

      pub IsKeptOf-renewed : length new.results.shapes ≡ length mid.results.shapes → new.pairs ≡ mid.coming
          → IsIdle new → RemembersNested shapes h after (kept_of new.recall) → new.recall.staged ≡ []
          → IsKeptOf shapes ms h new
      IsKeptOf-renewed places pairs idle recall settled =
          let here = λ (id : ℕ) (node : Term) (at : slice_get h.terms id ≡ Some node).
          subst (λ ts. slice_get ts id ≡ Some node) renews.terms at in
          let there = λ (id : ℕ) (node : Term) (at : slice_get g.terms id ≡ Some node).
          subst (λ ts. slice_get ts id ≡ Some node) (sym renews.terms) at in
          record {
            records = record {
              targets = target_holds;
              pairs = pair_holds;
              no_target = no_target;
              no_pair = no_pair;
            };
            results = record {
              pairs = λ p node c at. pair_rows p node c (here p.node node at);
              others = λ n node none. no_rows_at n node (λ id at c. none id (there id node at) c);
            };
            count =
                let staged_count = staged.count in
                let whole = renews.count in
                let was = kept.count in
                omega arith;
            places = places ∙ staged.places ∙ kept.places;
            idle = idle;
            recall = recall;
            settled = settled;
          }
