-- A change of the graph: what it does not touch is as it was, in whatever order the triples stand.
use Rattle.std.specs.Prelude.{◌≡◌, ℕ, Bool, true, not, ◌||◌, List, [], ◌++◌, length, All, Contains}
use Rattle.std.specs.List.{IsDistinct, list_any}
use Rattle.std.proofs.Common.{refl, sym, ◌∙◌, subst, inl, inr}
use Rattle.std.proofs.lemmas.List.Elements.{Contains-append_left, Contains-append_right}
use Rattle.std.proofs.lemmas.List.{length-map}
use Rattle.shx_term.specs.Members.{SameMembers}
use Rattle.shx_term.specs.TermOrder.{same_term}
use Rattle.shx_term.specs.declared.term.Term.{Term}
use Rattle.shx_term.specs.declared.triple.Triple.{Triple}
use Rattle.shx_term.proofs.MemberLemmas.{All_of_each, Contains-filter, Contains-from_filter}
use Rattle.shx_term.proofs.MemberLemmas.{Contains-from_map, Contains-test, each_of_All}
use Rattle.shx_term.proofs.SetLemmas.{SameMembers-itself, SameMembers-sym}
use Rattle.graph_view.specs.Agree.{Agree, IsUntouched}
use Rattle.graph_view.specs.Graph.{Graph, AllKnown}
use Rattle.graph_view.specs.Key.{is_touching, Touches}
use Rattle.graph_view.specs.Patched.{IsBeside, patched}
use Rattle.graph_view.specs.SameGraph.{SameGraph}
use Rattle.graph_view.specs.declared.key.Key.{Key}
use Rattle.graph_view.specs.Valid.{IsValidTriple}
use Rattle.graph_view.proofs.AgreeLemmas.{Agree-fewer, Agree-on_terms, AgreeOn-same}
use Rattle.graph_view.proofs.KeyLemmas.{touching}
use Rattle.graph_view.proofs.PatchedLemmas.{Agree-patched, IsValidView-patched, is_not}
use Rattle.graph_view.proofs.SameGraphLemmas.{IsDistinct-filter}
use Rattle.graph_view.proofs.ValidLemmas.{AllKnown-valid, IsValidView-exchanged}
use Rattle.comp_core.specs.declared.pair.Pair.{Pair}
use Rattle.comp_core.specs.Pairs.{same_pair, same_pair_equiv, same_pair_exact}
use Rattle.shape_eval.specs.declared.shape.PlanShape.{PlanShape}
use Rattle.shape_eval.specs.Laws.{NestedDependOnReads, OwnReadsDependOnThemselves, ReadsAreOwnOrBelow}
use Rattle.shape_eval.specs.Laws.{ResultsDependOnReads, TargetsDependOnReads}
use Rattle.shape_eval.specs.Own.{own_reads}
use Rattle.shape_eval.specs.Plan.{IsKnownPlan, Planned}
use Rattle.shape_eval.specs.Report.{pairs}
use Rattle.shape_eval.specs.Results.{pair_reads}
use Rattle.read_records.specs.declared.reader.Reader.TheVariants.{OfPair, OfTarget}
use Rattle.read_records.specs.Recall.{KeepsRecalled, KeepsSame, RecallState, recalled}
use Rattle.read_records.specs.Records.{Commits}
use Rattle.pair_results.specs.PairResults.{Commits as CommitsRows}
use Rattle.edit_engine.specs.declared.renewal.Renewal.{Renewal}
use Rattle.edit_engine.specs.MayBeAsked.{MayBeAsked}
use Rattle.edit_engine.specs.Pairs.{pairs_of}
use Rattle.edit_engine.specs.Renewal.{IsRenewal, pairs_evaluated}
use Rattle.edit_engine.specs.Touched.{is_among_pairs, is_any_touched, touched_pairs}
use Rattle.edit_engine.specs.declared.kept.Kept.{Kept}
use Rattle.edit_engine.specs.inner.Kept.{IsIdle, IsKeptOf, SameKept}
use Rattle.edit_engine.specs.inner.Recall.{RemembersNested}
use Rattle.edit_engine.specs.inner.Staged.{IsStaged, MayBeStaged}
use Rattle.edit_engine.proofs.AlikeLemmas.{IsKeptOf-alike}
use Rattle.edit_engine.proofs.KnownPairLemmas.{pair_known}
use Rattle.edit_engine.proofs.PairLemmas.{length-differences, length-same_members, pair_or_not}
use Rattle.edit_engine.proofs.PairLemmas.{pairs_distinct}
use Rattle.edit_engine.proofs.ReachedLemmas.{own_touched}
use Rattle.edit_engine.proofs.RenewLemmas.{AreKept, IsKeptOf-renewed, MayBeStaged-renews, Renews}
use Rattle.edit_engine.proofs.StagedLemmas.{SameRecords-then, SameRows-then}
use Rattle.edit_engine.proofs.TestLemmas.{any_to, or_left, or_right}
use Rattle.edit_engine.proofs.TouchLemmas.{touched_test}

-- keys that no triple touches are beside the change
untouched : (added removed : List Triple) (keys : List Key)
    → (is_any_touched (added ++ removed) keys ≡ true → ⊥) → (key : Key) → Contains keys key
    → IsBeside added removed key
untouched added removed keys none key c =
    let of = λ (t : Triple) (d : Contains (added ++ removed) t) (h : Touches t key).
    none (any_to (λ u. list_any (is_touching u) keys) (added ++ removed) t d
    (any_to (is_touching t) keys key c ((touching t key).1 h))) in (
      All_of_each (λ t. IsUntouched t key) added (λ t d. of t (Contains-append_left added removed t d)),
      All_of_each (λ t. IsUntouched t key) removed (λ t d. of t (Contains-append_right added removed t d)),
    )

-- ---- a renewal

-- nothing but what is read for a pair matters to its results, nor anything but what is read for it itself to
-- what that is; and the parts of the graph among the latter are among the former
pub record ReadsDepend : Type 0 where
  pub results : ResultsDependOnReads
  pub parts : ReadsAreOwnOrBelow
  pub own : OwnReadsDependOnThemselves

module _ (plan : Planned) (g h : Graph) (added removed : List Triple) (renewal : Renewal)
    (asked : MayBeAsked plan g) (known : AllKnown h) (terms : h.terms ≡ g.terms)
    (agree : Agree g h (IsBeside added removed)) (laws : ReadsDepend)
    (is : IsRenewal plan g h (added ++ removed) renewal) where
  abbrev found_pairs : List Pair
  found_pairs = pairs_evaluated renewal.evaluated.items

  abbrev is_touched : Pair → Bool
  is_touched p =
      not (is_among_pairs (pairs plan g) p) || is_any_touched (added ++ removed) (pair_reads plan.shapes g p)

  -- a pair that was not evaluated is touched by nothing
  passes : (p : Pair) → Contains (pairs plan h) p → (Contains found_pairs p → ⊥) → is_touched p ≡ true → ⊥
  passes p c free e = free ((is.pairs.each p).1 (Contains-filter is_touched (pairs plan h) p c e))

  was_pair : (p : Pair) → Contains (pairs plan h) p → (Contains found_pairs p → ⊥)
      → Contains (pairs plan g) p
  was_pair p c free = elim (pair_or_not (pairs plan g) p) [
    | inl held ↦ held
    | inr absent ↦
        let not_held = is_not (is_among_pairs (pairs plan g) p) (λ e.
        absent ((Contains-test same_pair same_pair_equiv same_pair_exact (pairs plan g) p).0 e)) in
        absurd (passes p c free (or_left _ _ not_held))
  ]

  pub Renews-changed : Renews plan.shapes plan.targeted plan.targeted g h renewal
  Renews-changed = record {
    terms = terms;
    stay = λ n c. c;
    targets = λ n c.
        let at = Contains-from_map (λ target. target.shape) renewal.targets.items n c in
        subst (Contains plan.targeted) (sym at.2)
        (each_of_All (λ target. Contains plan.targeted target.shape) renewal.targets.items is.targets
        at.0 at.1);
    targets_once = is.targets_once;
    reads = is.reads;
    other_targets = λ n c free. (c, is.other_targets n c free);
    leaving_once = is.leaving.once;
    leaving = is.leaving.each;
    evaluated_once = is.pairs_once;
    evaluated = λ p c. (Contains-from_filter is_touched (pairs plan h) p ((is.pairs.each p).0 c)).0;
    right = is.right;
    others = λ p c free.
        let was = was_pair p c free in
        let known_g = AllKnown-valid g asked.valid in
        let node = (pair_known plan.shapes g known_g asked.known plan.targeted asked.within p was).node in
        let keys = pair_reads plan.shapes g p in
        let own = own_reads plan.shapes g p in
        let none = λ (e : is_any_touched (added ++ removed) keys ≡ true). passes p c free (or_right _ _ e) in
        let own_none = λ (e : is_any_touched (added ++ removed) own ≡ true).
        none ((touched_test (added ++ removed) keys).1
        (own_touched laws.parts plan.shapes asked.refers g known_g asked.known (added ++ removed) p node
        ((touched_test (added ++ removed) own).0 e))) in
        let same = laws.results plan.shapes asked.refers g h known_g known asked.known p node
        (Agree-fewer (Contains keys) (untouched added removed keys none) agree) in (
          was,
          record {
            rows = same.rows;
            reads = laws.own plan.shapes asked.refers g h known_g known asked.known p node
                (Agree-fewer (Contains own) (untouched added removed own own_none) agree);
          },
        );
    count = length-differences (pairs plan g) (pairs plan h) renewal.leaving.keys renewal.entering.items
        (pairs_distinct plan.shapes g plan.targeted asked.once)
        (pairs_distinct plan.shapes h plan.targeted asked.once) is.leaving is.entering;
  }

-- a plan may be asked of the changed graph
pub MayBeAsked-exchanged : (plan : Planned) (g h : Graph) (added removed : List Triple) → MayBeAsked plan g
    → All (IsValidTriple g.terms) added → h.terms ≡ g.terms
    → SameMembers h.triples (patched g added removed).triples → MayBeAsked plan h
MayBeAsked-exchanged plan g h added removed asked fit terms same = record {
  valid = IsValidView-exchanged g h added removed asked.valid fit terms same;
  known = subst (λ ts. IsKnownPlan ts plan.shapes) (sym terms) asked.known;
  refers = asked.refers;
  within = asked.within;
  once = asked.once;
}

-- ---- a change that is made, or refused

pub SameGraph-exchanged : (g h : Graph) (added removed : List Triple) → h.terms ≡ g.terms
    → SameMembers h.triples (patched g added removed).triples
    → length h.triples ≡ length (patched g added removed).triples → SameGraph (patched g added removed) h
SameGraph-exchanged g h added removed terms same count = record {
  terms = sym terms;
  triples = SameMembers-sym same;
  count = sym count;
}

-- what is evaluated is as many as what is touched
pub length-evaluated : (plan : Planned) (g h : Graph) (changed : List Triple) (renewal : Renewal)
    → MayBeAsked plan g → IsRenewal plan g h changed renewal
    → length renewal.evaluated.items ≡ length (touched_pairs plan g h changed)
length-evaluated plan g h changed renewal asked is =
    let test = λ (p : Pair).
    not (is_among_pairs (pairs plan g) p) || is_any_touched changed (pair_reads plan.shapes g p) in
    let once = IsDistinct-filter test same_pair (pairs plan h)
    (pairs_distinct plan.shapes h plan.targeted asked.once) in
    sym (length-map renewal.evaluated.items (λ found. found.pair))
    ∙ length-same_members (pairs_evaluated renewal.evaluated.items) (touched_pairs plan g h changed)
    is.pairs_once once is.pairs

-- what is kept of a graph is kept of one that holds the same triples
IsKeptOf-same : ReadsDepend → TargetsDependOnReads → NestedDependOnReads → (plan : Planned)
    (g h : Graph) → MayBeAsked plan g → MayBeAsked plan h → h.terms ≡ g.terms
    → SameMembers g.triples h.triples → (kept : Kept) → IsKeptOf plan.shapes plan.targeted g kept
    → IsKeptOf plan.shapes plan.targeted h kept
IsKeptOf-same laws targets_law nested_law plan g h asked asked' terms same kept is =
    IsKeptOf-alike plan g h (record {
      before = asked;
      after = asked';
      agree = λ keys. Agree-on_terms terms (AgreeOn-same same);
      results_law = laws.results;
      targets_law = targets_law;
    }) nested_law laws.own plan.targeted kept is

-- the changed graph may hold its triples in another order than the patched one
pub IsKeptOf-made : ReadsDepend → TargetsDependOnReads → NestedDependOnReads
    → (plan : Planned) (g h : Graph) (added removed : List Triple) (renewal : Renewal) → MayBeAsked plan g
    → All (IsValidTriple g.terms) added
    → IsRenewal plan g (patched g added removed) (added ++ removed) renewal → h.terms ≡ g.terms
    → SameMembers h.triples (patched g added removed).triples
    → IsDistinct same_term g.terms → (old mid new : Kept) → AreKept plan.shapes plan.targeted g old
    → IsStaged g.terms old mid renewal → Commits mid.records new.records → CommitsRows mid.results new.results
    → length new.results.shapes ≡ length mid.results.shapes → new.pairs ≡ mid.coming → IsIdle new
    → (recall : RecallState) → RemembersNested plan.shapes (patched g added removed)
    (pairs plan (patched g added removed)) (recalled recall) → KeepsRecalled recall new.recall
    → new.recall.staged ≡ []
    → IsKeptOf plan.shapes plan.targeted h new
IsKeptOf-made laws targets_law nested_law plan g h added removed renewal asked fit is terms same once
    old mid new kept staged commits rows places count idle recall remembers keeps settled =
    let patch = patched g added removed in
    let asked_patch =
    MayBeAsked-exchanged plan g patch added removed asked fit refl (SameMembers-itself patch.triples) in
    let asked_h = MayBeAsked-exchanged plan g h added removed asked fit terms same in
    let renews = Renews-changed plan g patch added removed renewal asked
    (AllKnown-valid patch asked_patch.valid) refl (Agree-patched g added removed) laws is in
    let remembers' = subst (RemembersNested plan.shapes patch (pairs plan patch))
    (λ i p. sym (keeps.each p) i) remembers in
    let kept_patch = IsKeptOf-renewed plan.shapes plan.targeted plan.targeted g patch renewal renews old mid
    new kept staged commits rows once places count idle remembers' settled in
    IsKeptOf-same laws targets_law nested_law plan patch h asked_patch asked_h terms
    (SameMembers-sym same) new kept_patch

-- what is staged for a change may be staged
pub MayBeStaged-changed : ReadsDepend → (plan : Planned) (g : Graph) (added removed : List Triple)
    (renewal : Renewal) → MayBeAsked plan g → All (IsValidTriple g.terms) added
    → IsRenewal plan g (patched g added removed) (added ++ removed) renewal → (kept : Kept)
    → AreKept plan.shapes plan.targeted g kept → MayBeStaged g.terms kept renewal
MayBeStaged-changed laws plan g added removed renewal asked fit is kept holds =
    let patch = patched g added removed in
    let known = AllKnown-valid patch (IsValidView-patched g added removed asked.valid fit) in
    MayBeStaged-renews plan.shapes plan.targeted plan.targeted g patch renewal
    (Renews-changed plan g patch added removed renewal asked known refl (Agree-patched g added removed)
    laws is)
    kept (AllKnown-valid g asked.valid) known asked.known asked.within asked.within holds

-- what is refused leaves all as it was
pub IsKeptOf-unchanged : (shapes : List PlanShape) (ns : List ℕ) (g : Graph) (old new : Kept)
    → IsKeptOf shapes ns g old → SameKept old new → IsKeptOf shapes ns g new
IsKeptOf-unchanged shapes ns g old new is same = record {
  records = record {
    targets = λ n c.
        let holds = is.records.targets n c in
        record {
          reads = holds.reads;
          recorded = same.records.each (OfTarget n) ∙ holds.recorded;
          same = holds.same;
        };
    pairs = λ p c.
        let holds = is.records.pairs p c in
        record {
          reads = holds.reads;
          recorded = same.records.each (OfPair p) ∙ holds.recorded;
          same = holds.same;
        };
    no_target = λ n free. same.records.each (OfTarget n) ∙ is.records.no_target n free;
    no_pair = λ p free. same.records.each (OfPair p) ∙ is.records.no_pair p free;
  };
  results = record {
    pairs = λ p node c at. same.rows.each p.shape node ∙ is.results.pairs p node c at;
    others = λ n node none. same.rows.each n node ∙ is.results.others n node none;
  };
  count = same.pairs ∙ is.count;
  places = same.places ∙ is.places;
  idle = same.idle;
  recall = subst (RemembersNested shapes g (pairs_of shapes ns g)) (λ i p. sym (same.recall.each p) i)
      is.recall;
  settled = same.settled;
}

-- whatever was remembered for the time being
pub SameKept-beside : (old new : Kept) (recall : RecallState) → KeepsSame old.recall recall
    → SameKept (record old { recall = recall }) new → SameKept old new
SameKept-beside old new recall keeps same = record {
  records = same.records;
  rows = same.rows;
  recall = record { each = λ p. same.recall.each p ∙ keeps.each p };
  settled = same.settled;
  places = same.places;
  pairs = same.pairs;
  idle = same.idle;
}

-- what was staged is forgotten
pub SameKept-dropped : (terms : List Term) (old mid new : Kept) (renewal : Renewal)
    → IsStaged terms old mid renewal → mid.pairs ≡ old.pairs → mid.recall ≡ old.recall → SameKept mid new
    → SameKept old new
SameKept-dropped terms old mid new renewal staged pairs recall dropped = record {
  records = SameRecords-then staged.records dropped.records;
  rows = SameRows-then staged.rows dropped.rows;
  recall = subst (λ (state : RecallState). KeepsSame state new.recall) recall dropped.recall;
  settled = dropped.settled;
  places = dropped.places ∙ staged.places;
  pairs = dropped.pairs ∙ pairs;
  idle = dropped.idle;
}
