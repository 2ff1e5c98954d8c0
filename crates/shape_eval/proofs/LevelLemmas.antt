-- Results of pairs depend on what is read for them, and not on the number of levels: one induction.
use Rattle.std.specs.Prelude.{◌≡◌, ◌<◌, ◌≤◌, ℕ, zero, suc, List, [], Some, length, slice_get}
use Rattle.std.specs.Prelude.{Contains, flat_map}
use Rattle.std.proofs.Common.{refl, sym, ◌∙◌, subst, arith, inl, inr}
use Rattle.std.proofs.lemmas.Bool.{cases_lt}
use Rattle.std.proofs.lemmas.Option.{get_or_from_slice_get, slice_get_past, slice_get_within}
use Rattle.shx_term.specs.Members.{SameMembers}
use Rattle.shx_term.proofs.MemberLemmas.{Contains-at, Contains-flat_map, each_of_All}
use Rattle.shx_term.proofs.SetLemmas.{SameMembers-itself, SameMembers-is}
use Rattle.graph_view.specs.declared.key.Key.{Key}
use Rattle.graph_view.specs.Agree.{Agree}
use Rattle.graph_view.specs.Graph.{Graph, AllKnown, HasTerms}
use Rattle.graph_view.proofs.AgreeLemmas.{Agree-on_terms, AgreeOn-same}
use Rattle.comp_core.specs.declared.pair.Pair.{Pair}
use Rattle.comp_core.specs.Laws.{SameAnswers}
use Rattle.shape_eval.specs.declared.constraint.Constraint.{Constraint}
use Rattle.shape_eval.specs.declared.shape.PlanShape.{PlanShape}
use Rattle.shape_eval.specs.Constraint.{constraint_asks, constraint_numbers, shapes_named}
use Rattle.shape_eval.specs.Laws.{IsSamePair}
use Rattle.shape_eval.specs.Plan.{HasTermsOf, IsKnownPlan, RefersLower, names_of}
use Rattle.shape_eval.specs.Results.{pair_reads, reads_within, results_within}
use Rattle.shape_eval.specs.Results.{shape_reads, value_nodes}
use Rattle.shape_eval.proofs.AskLemmas.{asked_is_named}
use Rattle.shape_eval.proofs.ConstraintLemmas.{AgreesAt, AsksValuesAt}
use Rattle.shape_eval.proofs.NumberLemmas.{all_that_matter}
use Rattle.shape_eval.proofs.ShapeLemmas.{PathsAgree, shape_alike, values_known}

member_at : {X : Type 0} (xs : List X) (i : ℕ) (x : X) → slice_get xs i ≡ Some x → Contains xs x
member_at xs i x e =
    subst (Contains xs) (get_or_from_slice_get xs i x x e) (Contains-at xs i x (slice_get_within xs i x e))

pub Agree-itself : {K : Key → Type 0} (g : Graph) → Agree g g K
Agree-itself g = Agree-on_terms refl (AgreeOn-same (SameMembers-itself g.triples))

-- the shape of a number that has one is known
pub shape_known : (g : Graph) (shapes : List PlanShape) → IsKnownPlan g.terms shapes → (n : ℕ)
    (sh : PlanShape) → slice_get shapes n ≡ Some sh → HasTermsOf g.terms sh
shape_known g shapes known n sh e =
    each_of_All (HasTermsOf g.terms) shapes known.each sh (member_at shapes n sh e)

-- what matters to its constraints has terms
pub numbers_known : (g : Graph) (shapes : List PlanShape) → IsKnownPlan g.terms shapes → (n : ℕ)
    (sh : PlanShape) → slice_get shapes n ≡ Some sh
    → HasTerms g (flat_map constraint_numbers sh.constraints.items)
numbers_known g shapes known n sh e =
    all_that_matter (λ id. id < length g.terms) sh.constraints.items
    (shape_known g shapes known n sh e).constraints

-- what a shape asks is of lower shapes
pub asked_below : (shapes : List PlanShape) → RefersLower shapes → (n : ℕ) (sh : PlanShape)
    → slice_get shapes n ≡ Some sh → (c : Constraint) → Contains sh.constraints.items c
    → (vs : List ℕ) (d : Pair) → Contains (constraint_asks c vs) d → d.shape < n
asked_below shapes lower n sh e c i vs d asked =
    lower.lower n d.shape (subst (λ o. Contains (names_of o) d.shape) (sym e)
    (Contains-flat_map shapes_named sh.constraints.items c d.shape i (asked_is_named c vs d asked)))

module _ (paths_agree : PathsAgree) (agrees : (c : Constraint) → AgreesAt c)
    (asks_values : (c : Constraint) → AsksValuesAt c) (shapes : List PlanShape) (lower : RefersLower shapes)
  where
    pub pair_alike : (k l : ℕ) (g h : Graph) → AllKnown g → AllKnown h → IsKnownPlan g.terms shapes
        → (p : Pair) → p.shape < k → p.shape < l → p.node < length g.terms
        → Agree g h (Contains (reads_within k shapes g p))
        → SameAnswers (results_within k shapes g) (results_within l shapes h) (reads_within k shapes g)
        (reads_within l shapes h) p
    pair_alike zero l g h known known' plan p a b inside agree = absurd (omega (arith, a))
    pair_alike (suc k) zero g h known known' plan p a b inside agree = absurd (omega (arith, b))
    pair_alike (suc k) (suc l) g h known known' plan p a b inside agree =
        let both = shape_alike paths_agree agrees g h known known' (results_within k shapes g)
        (results_within l shapes h) (reads_within k shapes g) (reads_within l shapes h) p inside
        (slice_get shapes p.shape)
        (λ sh e. numbers_known g shapes plan p.shape sh e)
        (λ sh e c i d j on.
        let vs = value_nodes g sh.path p.node in
        let below : d.shape < p.shape = asked_below shapes lower p.shape sh e c i vs d j in
        let there = each_of_All (λ v. v < length g.terms) vs (values_known g known sh.path p.node inside)
        d.node (asks_values c vs d j) in
        pair_alike k l g h known known' plan d (omega (arith, below, a)) (omega (arith, below, b)) there on)
        agree in
        record { rows = both.rows; reads = both.reads }

    -- of what is no shape there are no results, and nothing is read, at however many levels
    none_past : (k : ℕ) (g : Graph) (p : Pair) → length shapes ≤ p.shape
        → (results_within k shapes g p ≡ []) × (reads_within k shapes g p ≡ [])
    none_past zero g p past = (refl, refl)
    none_past (suc k) g p past = rw (slice_get_past shapes p.shape past) (refl, refl)

    pub depends : (g h : Graph) → AllKnown g → AllKnown h → IsKnownPlan g.terms shapes → (p : Pair)
        → p.node < length g.terms → Agree g h (Contains (pair_reads shapes g p)) → IsSamePair shapes g h p
    depends g h known known' plan p inside agree = elim (cases_lt p.shape (length shapes)) [
      | inl within ↦
          pair_alike (length shapes) (length shapes) g h known known' plan p within within inside agree
      | inr past ↦
          let before = none_past (length shapes) g p past in
          let after = none_past (length shapes) h p past in
          record {
            rows = before.0 ∙ sym after.0;
            reads = SameMembers-is (pair_reads shapes g p) (pair_reads shapes h p) (before.1 ∙ sym after.1);
          }
    ]

    -- graphs that are one agree on everything
    pub levels : (g : Graph) → AllKnown g → IsKnownPlan g.terms shapes → (k l : ℕ) (p : Pair) → p.shape < k
        → p.shape < l → p.node < length g.terms
        → SameAnswers (results_within k shapes g) (results_within l shapes g) (reads_within k shapes g)
        (reads_within l shapes g) p
    levels g known plan k l p a b inside =
        pair_alike k l g g known known plan p a b inside (Agree-itself g)

    -- what is read for a pair is what its shape reads, by what is read for others
    pub reads_unfold : (g : Graph) → AllKnown g → IsKnownPlan g.terms shapes → (p : Pair)
        → p.node < length g.terms
        → SameMembers (pair_reads shapes g p)
        (shape_reads g (pair_reads shapes g) (slice_get shapes p.shape) p)
    reads_unfold g known plan p inside =
        let n = length shapes in
        elim (cases_lt p.shape n) [
          | inl within ↦ (levels g known plan n (suc n) p within (omega (arith, within)) inside).reads
          | inr past ↦
              SameMembers-is (pair_reads shapes g p) (reads_within (suc n) shapes g p)
              ((none_past n g p past).1 ∙ sym (none_past (suc n) g p past).1)
        ]
