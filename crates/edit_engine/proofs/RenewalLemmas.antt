-- How a renewal is gathered, target by target.
use Rattle.std.specs.Prelude.{◌≡◌, ℕ, suc, ◌+◌, ◌<◌, nat_eq, List, [], ◌∷◌, ◌++◌, map, length, take, drop}
use Rattle.std.specs.Prelude.{All, Bool, Contains, MatchOption, None, Option, Some}
use Rattle.std.specs.Cmp.{IsEquivalence, nat_eq_equiv}
use Rattle.std.specs.List.{IsDistinct}
use Rattle.std.specs.Option.{option_to_list}
use Rattle.std.specs.declared.alloc.Global.{Global}
use Rattle.std.specs.declared.vec.Vec.{Vec}
use Rattle.std.proofs.Common.{refl, sym, ap, ◌∙◌, subst, inl, inr, get_or, append-nil, drop-cons}
use Rattle.std.proofs.lemmas.Grind.{flat_map-append}
use Rattle.std.proofs.lemmas.List.{map-append, take_more, take-append-drop}
use Rattle.std.proofs.lemmas.List.Elements.{All-append, Contains-append_right}
use Rattle.std.proofs.lemmas.List.Elements.{Contains-append_left, Contains-append_cases}
use Rattle.std.proofs.lemmas.Bool.{eqb-true}
use Rattle.std.proofs.lemmas.Map.Keys.{IsDistinct-tail}
use Rattle.shx_term.specs.Members.{Adds, SameMembers}
use Rattle.shx_term.proofs.MemberLemmas.{All_of_each, Contains-at, Contains-cases, Contains-head}
use Rattle.shx_term.proofs.MemberLemmas.{Contains-one}
use Rattle.shx_term.proofs.MemberLemmas.{each_of_All, none_in_empty}
use Rattle.graph_view.specs.declared.key.Key.{Key}
use Rattle.graph_view.specs.Graph.{Graph}
use Rattle.graph_view.proofs.PatchedLemmas.{IsDistinct-append}
use Rattle.comp_core.specs.declared.pair.Pair.{Pair}
use Rattle.comp_core.specs.Pairs.{same_pair}
use Rattle.shape_eval.specs.declared.shape.PlanShape.{PlanShape}
use Rattle.shape_eval.specs.Report.{at_shape}
use Rattle.shape_eval.specs.Targets.{target_nodes, target_reads}
use Rattle.read_records.specs.declared.reader.Reader.{Reader}
use Rattle.read_records.specs.declared.reader.Reader.TheVariants.{OfPair, OfTarget}
use Rattle.edit_engine.specs.declared.renewal.Renewal.{Renewal}
use Rattle.edit_engine.specs.declared.renewal.TargetReads.{TargetReads}
use Rattle.edit_engine.specs.Renewal.{IsDifference, IsReadNow, shapes_renewed}
use Rattle.edit_engine.specs.inner.Parts.{AlsoLeave, IsEmptyRenewal, OnlyEnters, OnlyLeaves, OnlyRenews}
use Rattle.edit_engine.specs.inner.Parts.{OpensTarget, RenewsRead, RenewsReads, RenewsTarget, RenewsTargets}
use Rattle.edit_engine.specs.inner.Parts.{reader_targets, reads_renewed, targets_among}
use Rattle.edit_engine.proofs.RenewedPairLemmas.{AreApart, AreApart-difference, AreApart-from, AreApart-more}
use Rattle.edit_engine.proofs.RenewedPairLemmas.{AreApart-none, IsDistinct-more, none_apart}
use Rattle.edit_engine.proofs.ReaderLemmas.{Contains-targets_among, IsDistinct-one, head_absent}

-- ---- one target

-- one target more is renewed
pub renewed_more : (targets : List TargetReads) (new : List TargetReads) (t : TargetReads) (n : ℕ)
    → new ≡ targets ++ t ∷ [] → t.shape ≡ n → shapes_renewed new ≡ shapes_renewed targets ++ n ∷ []
renewed_more targets new t n pushed is =
    ap shapes_renewed pushed
    ∙ map-append (λ (u : TargetReads). u.shape) targets (t ∷ [])
    ∙ ap (λ m. shapes_renewed targets ++ m ∷ []) is

pub read_more : (shapes : List PlanShape) (g : Graph) (targets : List TargetReads) (new : List TargetReads)
    (t : TargetReads) → new ≡ targets ++ t ∷ [] → IsReadNow shapes g t → All (IsReadNow shapes g) targets
    → All (IsReadNow shapes g) new
read_more shapes g targets new t pushed read before =
    subst (All (IsReadNow shapes g)) (sym pushed) (All-append (IsReadNow shapes g) targets (t ∷ []) before
    (All_of_each (IsReadNow shapes g) (t ∷ [])
    (λ u c. subst (IsReadNow shapes g) (sym ((Contains-one t u).0 c)) read)))

module _ {shapes : List PlanShape} {g : Graph} {n : ℕ} where
  pub OpensTarget-made : {old mid : Renewal} {targets : Vec TargetReads Global} {t : TargetReads}
      (nodes : List ℕ) → OnlyEnters old mid
      → mid.entering.items ≡ old.entering.items ++ map (at_shape n) nodes → nodes ≡ target_nodes shapes g n
      → targets.items ≡ mid.targets.items ++ t ∷ [] → t.shape ≡ n → IsReadNow shapes g t
      → OpensTarget shapes g n old (record {
        targets = targets;
        leaving = mid.leaving;
        entering = mid.entering;
        evaluated = mid.evaluated;
      })
  OpensTarget-made {old} {mid} {targets} {t} nodes only entering are pushed is read = record {
    opened = t;
    shape = is;
    right = read;
    targets = pushed ∙ ap (λ ts. ts ++ t ∷ []) only.targets;
    entering = entering ∙ ap (λ ns. old.entering.items ++ map (at_shape n) ns) are;
    leaving = only.leaving;
    evaluated = only.evaluated;
  }

-- what was read now is renewed; else P
read_now : (shapes : List PlanShape) (h : Graph) (n : ℕ) (P : Type 0) (reads : Option (List Key))
    → MatchOption reads P (λ keys. SameMembers keys (target_reads shapes h n))
    → MatchOption (reads_renewed n reads) P (λ target. (target.shape ≡ n) × IsReadNow shapes h target)
read_now shapes h n P None same = same
read_now shapes h n P (Some keys) now = (refl, record { reads = now })

module _ {shapes : List PlanShape} {g h : Graph} {n : ℕ} where
  pub RenewsRead-made : {old new : List TargetReads} (reads : Option (List Key))
      → MatchOption reads (SameMembers (target_reads shapes g n) (target_reads shapes h n))
      (λ keys. SameMembers keys (target_reads shapes h n))
      → new ≡ old ++ option_to_list (reads_renewed n reads) → RenewsRead shapes g h n old new
  RenewsRead-made reads right is =
      record {
        renewed = reads_renewed n reads;
        new_is = is;
        right = read_now shapes h n (SameMembers (target_reads shapes g n) (target_reads shapes h n)) reads
            right;
      }

  pub RenewsTarget-made : {old mid new : Renewal}
      (entered left : List ℕ) → OnlyEnters old mid
      → mid.entering.items ≡ old.entering.items ++ map (at_shape n) entered → OnlyLeaves mid new
      → AlsoLeave (map (at_shape n) left) mid.leaving.keys new.leaving.keys
      → IsDifference nat_eq (target_nodes shapes h n) (target_nodes shapes g n) entered
      → IsDifference nat_eq (target_nodes shapes g n) (target_nodes shapes h n) left
      → {last : Renewal} → OnlyRenews new last
      → RenewsRead shapes g h n new.targets.items last.targets.items → RenewsTarget shapes g h n old last
  RenewsTarget-made {old} {mid} {new} entered left enter entering leave leaving enters leaves {last} only
      read =
      record {
        reads = subst (λ ts. RenewsRead shapes g h n ts last.targets.items) (leave.targets ∙ enter.targets)
            read;
        entered = entered;
        enters = enters;
        entering = only.entering ∙ leave.entering ∙ entering;
        left = left;
        leaves = leaves;
        leaving = subst (AlsoLeave (map (at_shape n) left) old.leaving.keys) (sym only.leaving)
            (subst (λ ps. AlsoLeave (map (at_shape n) left) ps new.leaving.keys) enter.leaving leaving);
      }

-- ---- targets in turn

Adds-append : {X : Type 0} (xs ys : List X) → Adds xs (xs ++ ys) ys
Adds-append xs ys = record {
  each = λ x. (
    λ c. Contains-append_cases xs ys x c,
    λ h. elim h [ inl c ↦ Contains-append_left xs ys x c | inr c ↦ Contains-append_right xs ys x c ],
  );
}

module _ {shapes : List PlanShape} {g h : Graph} where
  pub RenewsTargets-none : {renewal : Renewal} → IsEmptyRenewal renewal → RenewsTargets shapes g h [] renewal
  RenewsTargets-none {renewal} empty =
      let after = target_nodes shapes h in
      let before = target_nodes shapes g in
      let none : (ps : List Pair) → ps ≡ [] → IsDistinct same_pair ps =
      λ ps e. subst (IsDistinct same_pair) (sym e) (none_apart same_pair) in
      record {
        reads = subst (RenewsReads shapes g h []) (sym empty.targets) (record {
          among = All_of_each (Contains []) [] (λ n c. absurd (none_in_empty n c));
          once = none_apart nat_eq;
          now = All_of_each (IsReadNow shapes h) [] (λ u c. absurd (none_in_empty u c));
          others = λ n c. absurd (none_in_empty n c);
        });
        entering = AreApart-difference after before [] renewal.entering.items
            (none renewal.entering.items empty.entering)
            (subst (AreApart after before []) (sym empty.entering) (AreApart-none after before));
        leaving = AreApart-difference before after [] renewal.leaving.keys
            (none renewal.leaving.keys empty.leaving)
            (subst (AreApart before after []) (sym empty.leaving) (AreApart-none before after));
      }

  pub RenewsTargets-same : {renewal : Renewal} (ns ms : List ℕ) → ns ≡ ms
      → RenewsTargets shapes g h ns renewal → RenewsTargets shapes g h ms renewal
  RenewsTargets-same {renewal} ns ms same before =
      subst (λ ks. RenewsTargets shapes g h ks renewal) same before

  -- of one target more what is read
  reads_with : {ns : List ℕ} {n : ℕ} {old new : List TargetReads} → (Contains ns n → ⊥)
      → (renewed : Option TargetReads) → new ≡ old ++ option_to_list renewed
      → MatchOption renewed (SameMembers (target_reads shapes g n) (target_reads shapes h n))
      (λ target. (target.shape ≡ n) × IsReadNow shapes h target)
      → RenewsReads shapes g h ns old → RenewsReads shapes g h (ns ++ n ∷ []) new
  reads_with {ns} {n} {old} fresh None is same before =
      subst (RenewsReads shapes g h (ns ++ n ∷ [])) (sym (is ∙ append-nil old)) (record {
        among = All_of_each (Contains (ns ++ n ∷ [])) (shapes_renewed old)
            (λ m c. Contains-append_left ns (n ∷ []) m
            (each_of_All (Contains ns) (shapes_renewed old) before.among m c));
        once = before.once;
        now = before.now;
        others = λ m c not_renewed. elim (Contains-append_cases ns (n ∷ []) m c) [
          | inl d ↦ before.others m d not_renewed
          | inr d ↦
              subst (λ k. SameMembers (target_reads shapes g k) (target_reads shapes h k))
              (sym ((Contains-one n m).0 d)) same
        ];
      })
  reads_with {ns} {n} {old} {new} fresh (Some t) is right before =
      let all = ns ++ n ∷ [] in
      let shapes_are : shapes_renewed new ≡ shapes_renewed old ++ n ∷ [] =
      renewed_more old new t n is right.0 in
      let old_among = each_of_All (Contains ns) (shapes_renewed old) before.among in
      record {
        among = subst (All (Contains all)) (sym shapes_are)
            (All_of_each (Contains all) (shapes_renewed old ++ n ∷ []) (λ m c.
            elim (Contains-append_cases (shapes_renewed old) (n ∷ []) m c) [
              | inl d ↦ Contains-append_left ns (n ∷ []) m (old_among m d)
              | inr d ↦ Contains-append_right ns (n ∷ []) m d
            ]));
        once = subst (IsDistinct nat_eq) (sym shapes_are)
            (IsDistinct-append nat_eq nat_eq_equiv eqb-true (shapes_renewed old) (n ∷ []) before.once
            (IsDistinct-one nat_eq n)
            (λ m c d. fresh (subst (Contains ns) ((Contains-one n m).0 d) (old_among m c))));
        now = read_more shapes h old new t is right.1 before.now;
        others = λ m c not_renewed. elim (Contains-append_cases ns (n ∷ []) m c) [
          | inl d ↦
              before.others m d (λ e. not_renewed
              (subst (λ ms. Contains ms m) (sym shapes_are)
              (Contains-append_left (shapes_renewed old) (n ∷ []) m e)))
          | inr d ↦
              absurd (not_renewed
              (subst (λ ms. Contains ms m) (sym shapes_are)
              (Contains-append_right (shapes_renewed old) (n ∷ []) m d)))
        ];
      }

  RenewsReads-more : {ns : List ℕ} {n : ℕ} {old new : List TargetReads} → (Contains ns n → ⊥)
      → RenewsRead shapes g h n old new → RenewsReads shapes g h ns old
      → RenewsReads shapes g h (ns ++ n ∷ []) new
  RenewsReads-more fresh step before = reads_with fresh step.renewed step.new_is step.right before

  pub RenewsTargets-more : {ns ms : List ℕ} {n : ℕ} {old new : Renewal} → ms ≡ ns ++ n ∷ []
      → (Contains ns n → ⊥) → RenewsTarget shapes g h n old new → RenewsTargets shapes g h ns old
      → RenewsTargets shapes g h ms new
  RenewsTargets-more {ns} {ms} {n} {old} {new} more fresh step before =
      let after_nodes = target_nodes shapes h in
      let before_nodes = target_nodes shapes g in
      let entered = map (at_shape n) step.entered in
      let all = ns ++ n ∷ [] in
      let came = AreApart-from after_nodes before_nodes ns old.entering.items before.entering in
      let went = AreApart-from before_nodes after_nodes ns old.leaving.keys before.leaving in
      let adds = subst (λ ps. Adds old.entering.items ps entered) (sym step.entering)
      (Adds-append old.entering.items entered) in
      let once = subst (IsDistinct same_pair) (sym step.entering)
      (IsDistinct-more after_nodes before_nodes ns n old.entering.items step.entered fresh step.enters.once
      came before.entering.once) in
      let renewed : RenewsTargets shapes g h all new = record {
        reads = RenewsReads-more fresh step.reads before.reads;
        entering = AreApart-difference after_nodes before_nodes all new.entering.items once
            (AreApart-more after_nodes before_nodes ns n old.entering.items new.entering.items step.entered
            step.enters adds came);
        leaving = AreApart-difference before_nodes after_nodes all new.leaving.keys
            (step.leaving.once before.leaving.once)
            (AreApart-more before_nodes after_nodes ns n old.leaving.keys new.leaving.keys step.left
            step.leaves step.leaving.adds went);
      } in
      subst (λ ks. RenewsTargets shapes g h ks new) (sym more) renewed

-- ---- the targets among some readers, one reader more

-- of distinct things none stood before
new_behind : {X : Type 0} (same : X → X → Bool) → IsEquivalence same → (xs ys : List X) (x : X)
    → IsDistinct same (xs ++ x ∷ ys) → Contains xs x → ⊥
new_behind same laws [] ys x once c = none_in_empty x c
new_behind same laws (z ∷ zs) ys x once c = elim (Contains-cases z x zs c) [
  | inl e ↦
      head_absent same laws z (zs ++ x ∷ ys) once
      (subst (Contains (zs ++ x ∷ ys)) e (Contains-append_right zs (x ∷ ys) x (Contains-head x ys)))
  | inr d ↦ new_behind same laws zs ys x (IsDistinct-tail same z (zs ++ x ∷ ys) once) d
]

module _ (readers : List Reader) (i : ℕ) (d : Reader) (inside : i < length readers) where
  targets_more : targets_among (take (i + 1) readers)
      ≡ targets_among (take i readers) ++ reader_targets (get_or readers i d)
  targets_more =
      let reader = get_or readers i d in
      let first = targets_among (take i readers) in
      ap targets_among (take_more readers i d inside)
      ∙ flat_map-append reader_targets (take i readers) (reader ∷ [])
      ∙ ap (λ ns. first ++ ns) (append-nil (reader_targets reader))

  pub targets-pair : (p : Pair) → get_or readers i d ≡ OfPair p
      → targets_among (take i readers) ≡ targets_among (take (i + 1) readers)
  targets-pair p is =
      let first = targets_among (take i readers) in
      sym (targets_more ∙ ap (λ r. first ++ reader_targets r) is ∙ append-nil first)

  module _ (n : ℕ) (is : get_or readers i d ≡ OfTarget n) where
    pub targets-target : targets_among (take (i + 1) readers) ≡ targets_among (take i readers) ++ n ∷ []
    targets-target = targets_more ∙ ap (λ r. targets_among (take i readers) ++ reader_targets r) is

    pub target_within : (P : ℕ → Type 0) → All P (targets_among readers) → P n
    target_within P all =
        each_of_All P (targets_among readers) all n
        ((Contains-targets_among readers n).1 (subst (Contains readers) is (Contains-at readers i d inside)))

    pub target_new : IsDistinct nat_eq (targets_among readers)
        → Contains (targets_among (take i readers)) n → ⊥
    target_new once =
        let first = targets_among (take i readers) in
        let rest = targets_among (drop (suc i) readers) in
        let whole : targets_among readers ≡ first ++ n ∷ rest =
        ap targets_among (sym (take-append-drop i readers))
        ∙ flat_map-append reader_targets (take i readers) (drop i readers)
        ∙ ap (λ rs. first ++ targets_among rs) (drop-cons readers i d inside)
        ∙ ap (λ r. first ++ (reader_targets r ++ rest)) is in
        new_behind nat_eq nat_eq_equiv first rest n (subst (IsDistinct nat_eq) whole once)
