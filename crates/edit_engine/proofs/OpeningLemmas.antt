-- The opening: all targets and all pairs are new, and what a renewal from nothing makes is all that is kept.
use Rattle.std.specs.Prelude.{◌≡◌, ℕ, ◌<◌, nat_eq, List, [], ◌∷◌, ◌++◌, map, length}
use Rattle.std.specs.Prelude.{All, Contains}
use Rattle.std.specs.List.{IsDistinct}
use Rattle.std.proofs.Common.{refl, sym, ap, ◌∙◌, subst, arith, append-nil}
use Rattle.std.proofs.lemmas.Grind.{flat_map-append}
use Rattle.shx_term.specs.TermOrder.{same_term}
use Rattle.shx_term.proofs.MemberLemmas.{All_of_each, none_in_empty}
use Rattle.graph_view.specs.Graph.{Graph, AllKnown}
use Rattle.comp_core.specs.declared.pair.Pair.{Pair}
use Rattle.comp_core.specs.Pairs.{same_pair}
use Rattle.shape_eval.specs.declared.shape.PlanShape.{PlanShape}
use Rattle.shape_eval.specs.Plan.{IsKnownPlan}
use Rattle.shape_eval.specs.Report.{at_shape}
use Rattle.shape_eval.specs.Targets.{target_nodes}
use Rattle.read_records.specs.declared.reader.Reader.TheVariants.{OfPair, OfTarget}
use Rattle.read_records.specs.Recall.{kept_of}
use Rattle.edit_engine.specs.declared.renewal.Renewal.{Renewal}
use Rattle.edit_engine.specs.Pairs.{pairs_of}
use Rattle.edit_engine.specs.Renewal.{IsOpening, IsReadNow, pairs_evaluated, shapes_renewed}
use Rattle.edit_engine.specs.declared.kept.Kept.{Kept}
use Rattle.edit_engine.specs.inner.Kept.{IsKeptOf, KeepsNothing}
use Rattle.edit_engine.specs.inner.Recall.{RemembersNested}
use Rattle.edit_engine.specs.inner.Parts.{Evaluates, IsEmptyRenewal, OpensTarget, OpensTargets, SameTargets}
use Rattle.edit_engine.specs.inner.Staged.{IsAdopted, MayBeAdopted}
use Rattle.edit_engine.proofs.RenewedPairLemmas.{none_apart}
use Rattle.edit_engine.proofs.KnownPairLemmas.{pair_known}
use Rattle.edit_engine.proofs.PairLemmas.{pairs_distinct}
use Rattle.edit_engine.proofs.RenewalLemmas.{read_more, renewed_more}
use Rattle.edit_engine.proofs.RenewLemmas.{AreKept, IsKeptOf-renewed, Renews}

-- ---- target by target

-- the pairs of one shape more
pairs_of-more : (shapes : List PlanShape) (ns : List ℕ) (n : ℕ) (g : Graph)
    → pairs_of shapes (ns ++ n ∷ []) g ≡ pairs_of shapes ns g ++ map (at_shape n) (target_nodes shapes g n)
pairs_of-more shapes ns n g =
    flat_map-append (λ m. map (at_shape m) (target_nodes shapes g m)) ns (n ∷ [])
    ∙ ap (λ ps. pairs_of shapes ns g ++ ps) (append-nil (map (at_shape n) (target_nodes shapes g n)))

module _ {shapes : List PlanShape} {g : Graph} where
  pub OpensTargets-none : {renewal : Renewal} → IsEmptyRenewal renewal → OpensTargets shapes g [] renewal
  OpensTargets-none empty = record {
    targets = ap shapes_renewed empty.targets;
    reads = subst (All (IsReadNow shapes g)) (sym empty.targets)
        (All_of_each (IsReadNow shapes g) [] (λ t c. absurd (none_in_empty t c)));
    entering = empty.entering;
    leaving = empty.leaving;
    evaluated = empty.evaluated;
  }

  -- one target more
  pub OpensTargets-more : {ns : List ℕ} {n : ℕ} {old new : Renewal} → OpensTargets shapes g ns old
      → OpensTarget shapes g n old new → OpensTargets shapes g (ns ++ n ∷ []) new
  OpensTargets-more {ns} {n} {old} {new} before one = record {
    targets = renewed_more old.targets.items new.targets.items one.opened n one.targets one.shape
        ∙ ap (λ ms. ms ++ n ∷ []) before.targets;
    reads = read_more shapes g old.targets.items new.targets.items one.opened one.targets one.right
        before.reads;
    entering = one.entering
        ∙ ap (λ ps. ps ++ map (at_shape n) (target_nodes shapes g n)) before.entering
        ∙ sym (pairs_of-more shapes ns n g);
    leaving = one.leaving ∙ before.leaving;
    evaluated = one.evaluated ∙ before.evaluated;
  }

  -- and then all that enter are evaluated
  pub IsOpening-made : {ns : List ℕ} {opened new : Renewal} → OpensTargets shapes g ns opened
      → Evaluates shapes g opened.evaluated.items new.evaluated.items opened.entering.items
      → SameTargets opened new → IsOpening shapes g ns new
  IsOpening-made {ns} {opened} {new} opens evaluates same =
      let only = evaluates.new_is ∙ ap (λ es. es ++ evaluates.more) opens.evaluated in
      record {
        targets = ap shapes_renewed same.targets ∙ opens.targets;
        reads = subst (All (IsReadNow shapes g)) (sym same.targets) opens.reads;
        entering = same.entering ∙ opens.entering;
        leaving = same.leaving ∙ opens.leaving;
        pairs = ap pairs_evaluated only ∙ evaluates.pairs ∙ opens.entering;
        right = rw only evaluates.right;
      }

-- ---- what is kept of it

-- of no shape nothing is kept
AreKept-none : (shapes : List PlanShape) (g : Graph) (kept : Kept) → KeepsNothing kept
    → length kept.results.shapes ≡ length shapes → AreKept shapes [] g kept
AreKept-none shapes g kept nothing places = record {
  records = record {
    targets = λ n c. absurd (none_in_empty n c);
    pairs = λ p c. absurd (none_in_empty p c);
    no_target = λ n free. nothing.records (OfTarget n);
    no_pair = λ p free. nothing.records (OfPair p);
  };
  results = record {
    pairs = λ p node c. absurd (none_in_empty p c);
    others = λ n node none. nothing.rows.each n node;
  };
  count = nothing.pairs;
  places = places;
}

module _ {shapes : List PlanShape} {g : Graph} {ns : List ℕ} {renewal : Renewal}
    (is : IsOpening shapes g ns renewal) (once : IsDistinct nat_eq ns) where
  distinct_targets : IsDistinct nat_eq (shapes_renewed renewal.targets.items)
  distinct_targets = subst (IsDistinct nat_eq) (sym is.targets) once

  distinct_pairs : IsDistinct same_pair (pairs_evaluated renewal.evaluated.items)
  distinct_pairs = subst (IsDistinct same_pair) (sym is.pairs) (pairs_distinct shapes g ns once)

  pub MayBeAdopted-opening : AllKnown g → IsKnownPlan g.terms shapes → All (λ n. n < length shapes) ns
      → MayBeAdopted g.terms (length shapes) renewal
  MayBeAdopted-opening known plan within =
      let each = λ (p : Pair) (c : Contains (pairs_evaluated renewal.evaluated.items) p).
      pair_known shapes g known plan ns within p (subst (λ ps. Contains ps p) is.pairs c) in
      record {
        targets_once = distinct_targets;
        pairs_once = distinct_pairs;
        known = All_of_each (λ p. p.node < length g.terms) (pairs_evaluated renewal.evaluated.items)
            (λ p c. (each p c).node);
        within = All_of_each (λ p. p.shape < length shapes) (pairs_evaluated renewal.evaluated.items)
            (λ p c. (each p c).shape);
        none = is.leaving;
      }

  -- nothing was, so all of it is renewed
  Renews-opening : Renews shapes [] ns g g renewal
  Renews-opening = record {
    terms = refl;
    stay = λ n c. absurd (none_in_empty n c);
    targets = λ n c. subst (λ ms. Contains ms n) is.targets c;
    targets_once = distinct_targets;
    reads = is.reads;
    other_targets = λ n c other. absurd (other (subst (λ ms. Contains ms n) (sym is.targets) c));
    leaving_once = subst (IsDistinct same_pair) (sym is.leaving) (none_apart same_pair);
    leaving = λ p. (
      λ c. absurd (none_in_empty p (subst (λ ps. Contains ps p) is.leaving c)),
      λ h. absurd (none_in_empty p h.0),
    );
    evaluated_once = distinct_pairs;
    evaluated = λ p c. subst (λ ps. Contains ps p) is.pairs c;
    right = is.right;
    others = λ p c other. absurd (other (subst (λ ps. Contains ps p) (sym is.pairs) c));
    count = (let none = ap length is.leaving in let entering = ap length is.entering in omega arith);
  }

  pub IsKeptOf-adopted : (new : Kept) → IsDistinct same_term g.terms
      → IsAdopted g.terms (length shapes) renewal new
      → RemembersNested shapes g (pairs_of shapes ns g) (kept_of new.recall) → new.recall.staged ≡ []
      → IsKeptOf shapes ns g new
  IsKeptOf-adopted new distinct adopted recall settled =
      IsKeptOf-renewed shapes [] ns g g renewal Renews-opening adopted.old adopted.mid new
      (AreKept-none shapes g adopted.old adopted.nothing adopted.room) adopted.staged adopted.records
      adopted.rows distinct adopted.places adopted.pairs adopted.idle recall settled
