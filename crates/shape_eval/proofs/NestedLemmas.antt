-- Nested pairs: what is read for them is read for the pair; they depend on that alone; they are closed.
use Rattle.std.specs.Prelude.{◌≡◌, ◌<◌, ◌≤◌, ℕ, zero, suc, Bool, true, false, List, [], ◌∷◌, ◌++◌, Option}
use Rattle.std.specs.Prelude.{Some, None, filter, flat_map, length, slice_get, if◌then◌else◌, Contains, ◌⊎◌}
use Rattle.std.proofs.Common.{refl, sym, ap, ◌∙◌, subst, arith, inl, inr}
use Rattle.std.proofs.lemmas.Bool.{cases_lt}
use Rattle.std.proofs.lemmas.List.Elements.{Contains-append_left, Contains-append_right}
use Rattle.std.proofs.lemmas.Option.{slice_get_past, slice_get_within}
use Rattle.shx_term.proofs.MemberLemmas.{Contains-cases, Contains-flat_map, Contains-from_filter}
use Rattle.shx_term.proofs.MemberLemmas.{Contains-from_flat_map, Contains-tail}
use Rattle.shx_term.proofs.MemberLemmas.{each_of_All, flat_map_agree, none_in_empty}
use Rattle.shx_term.proofs.SetLemmas.{SameMembers-itself}
use Rattle.graph_view.specs.declared.key.Key.{Key}
use Rattle.graph_view.specs.Agree.{Agree}
use Rattle.graph_view.specs.Graph.{Graph, AllKnown}
use Rattle.graph_view.proofs.AgreeLemmas.{Agree-fewer}
use Rattle.comp_core.specs.declared.pair.Pair.{Pair}
use Rattle.shape_eval.specs.declared.constraint.Constraint.{Constraint}
use Rattle.shape_eval.specs.declared.shape.PlanShape.{PlanShape}
use Rattle.shape_eval.specs.Constraint.{constraint_asks, constraint_reads}
use Rattle.shape_eval.specs.Laws.{IsNestedPair}
use Rattle.shape_eval.specs.Nested.{asked_at_node, asked_pairs, is_evaluated_at, nested_in, nested_within}
use Rattle.shape_eval.specs.Nested.{pairs_below}
use Rattle.shape_eval.specs.Plan.{IsKnownPlan, RefersLower}
use Rattle.shape_eval.specs.Results.{at_of, pair_reads, reads_of_each, results, value_nodes}
use Rattle.shape_eval.specs.Results.{value_reads}
use Rattle.shape_eval.specs.inner.Answers.{AnswersFollow, AsksBelow}
use Rattle.shape_eval.proofs.ConstraintLemmas.{AgreesAt}
use Rattle.shape_eval.proofs.OwnLemmas.{constraint_adds}
use Rattle.shape_eval.proofs.ShapeLemmas.{PathsAgree, values_known, values_same}

-- ---- the pairs right below a pair

-- the shape of the pair asks it
pub record IsAsked (shapes : List PlanShape) (g : Graph) (p d : Pair) : Type 0 where
  pub shape : PlanShape
  pub at : slice_get shapes p.shape ≡ Some shape
  pub on : shape.deactivated ≡ false
  pub asked : Contains (asked_pairs shape.constraints.items (value_nodes g shape.path p.node)) d

asked_of : (shapes : List PlanShape) (g : Graph) (p d : Pair) (o : Option PlanShape)
    → slice_get shapes p.shape ≡ o → Contains (asked_at_node g o p.node) d → IsAsked shapes g p d
asked_of shapes g p d None at c = absurd (none_in_empty d c)
asked_of shapes g p d (Some sh) at c = by sh.deactivated refl c
  where
    by : (off : Bool) → sh.deactivated ≡ off
        → Contains (if off then [] else asked_pairs sh.constraints.items (value_nodes g sh.path p.node)) d
        → IsAsked shapes g p d
    by true is c = absurd (none_in_empty d c)
    by false is c = record { shape = sh; at = at; on = is; asked = c }

module _ (shapes : List PlanShape) (g : Graph) (p d : Pair) where
  below_both : Contains (pairs_below shapes g p) d
      → Contains (asked_at_node g (slice_get shapes p.shape) p.node) d × (is_evaluated_at shapes d ≡ true)
  below_both c =
      Contains-from_filter (is_evaluated_at shapes) (asked_at_node g (slice_get shapes p.shape) p.node) d c

  pub below_asked : Contains (pairs_below shapes g p) d → IsAsked shapes g p d
  below_asked c = asked_of shapes g p d (slice_get shapes p.shape) refl (below_both c).0

  pub below_evaluated : Contains (pairs_below shapes g p) d → is_evaluated_at shapes d ≡ true
  below_evaluated c = (below_both c).1

-- a nested pair is right below, or nested in one that is
pub nested_cases : (k : ℕ) (shapes : List PlanShape) (g : Graph) (p d : Pair)
    → Contains (nested_within (suc k) shapes g p) d
    → (a : Pair) × (Contains (pairs_below shapes g p) a × ((d ≡ a) ⊎ Contains (nested_within k shapes g a) d))
nested_cases k shapes g p d c =
    let at = Contains-from_flat_map (λ b. b ∷ nested_within k shapes g b) (pairs_below shapes g p) d c in
    (at.0, (at.1, Contains-cases at.0 d (nested_within k shapes g at.0) at.2))

pub nested_deeper : (k : ℕ) (shapes : List PlanShape) (g : Graph) (p a d : Pair)
    → Contains (pairs_below shapes g p) a → Contains (nested_within k shapes g a) d
    → Contains (nested_within (suc k) shapes g p) d
nested_deeper k shapes g p a d c e =
    Contains-flat_map (λ b. b ∷ nested_within k shapes g b) (pairs_below shapes g p) a d c
    (Contains-tail a d (nested_within k shapes g a) e)

-- ---- which pairs are nested, by levels

module _ (asks : AsksBelow) (shapes : List PlanShape) (lower : RefersLower shapes) (g : Graph) where
  pub below_lower : (p d : Pair) → Contains (pairs_below shapes g p) d → d.shape < p.shape
  below_lower p d c =
      let is = below_asked shapes g p d c in
      (asks shapes lower p.shape is.shape is.at (value_nodes g is.shape.path p.node) d is.asked).0

  pub below_known : AllKnown g → (p d : Pair) → p.node < length g.terms → Contains (pairs_below shapes g p) d
      → d.node < length g.terms
  below_known known p d inside c =
      let is = below_asked shapes g p d c in
      let vs = value_nodes g is.shape.path p.node in
      each_of_All (λ v. v < length g.terms) vs (values_known g known is.shape.path p.node inside) d.node
      (asks shapes lower p.shape is.shape is.at vs d is.asked).1

  pub nested_is : AllKnown g → (k : ℕ) (p : Pair) → p.node < length g.terms → (d : Pair)
      → Contains (nested_within k shapes g p) d → IsNestedPair shapes g p d
  nested_is known zero p inside d c = absurd (none_in_empty d c)
  nested_is known (suc k) p inside d c =
      let found = nested_cases k shapes g p d c in
      let a = found.0 in
      let here : IsNestedPair shapes g p a = record {
        lower = below_lower p a found.1.0;
        node = below_known known p a inside found.1.0;
        evaluated = below_evaluated shapes g p a found.1.0;
      } in
      elim found.1.1 [
        | inl e ↦ subst (λ b. IsNestedPair shapes g p b) (sym e) here
        | inr deeper ↦
            let rest = nested_is known k a here.node d deeper in
            let first = here.lower in
            let next = rest.lower in
            record { lower = omega (arith, first, next); node = rest.node; evaluated = rest.evaluated }
      ]

  pub nested_levels : (k l : ℕ) (p : Pair) → p.shape < k → p.shape < l
      → nested_within k shapes g p ≡ nested_within l shapes g p
  nested_levels zero l p a b = absurd (omega (arith, a))
  nested_levels (suc k) zero p a b = absurd (omega (arith, b))
  nested_levels (suc k) (suc l) p a b =
      flat_map_agree (λ d. d ∷ nested_within k shapes g d) (λ d. d ∷ nested_within l shapes g d)
      (pairs_below shapes g p)
      (λ d c.
      let below = below_lower p d c in
      ap (λ ds. d ∷ ds) (nested_levels k l d (omega (arith, below, a)) (omega (arith, below, b))))

  none_below_past : (p : Pair) → length shapes ≤ p.shape → pairs_below shapes g p ≡ []
  none_below_past p past =
      ap (λ o. filter (is_evaluated_at shapes) (asked_at_node g o p.node))
      (slice_get_past shapes p.shape past)

  none_within_past : (k : ℕ) (p : Pair) → length shapes ≤ p.shape → nested_within k shapes g p ≡ []
  none_within_past zero p past = refl
  none_within_past (suc k) p past =
      ap (flat_map (λ d. d ∷ nested_within k shapes g d)) (none_below_past p past)

  pub nested_unfolds : (p : Pair)
      → nested_in shapes g p ≡ flat_map (λ d. d ∷ nested_in shapes g d) (pairs_below shapes g p)
  nested_unfolds p = elim (cases_lt p.shape (length shapes)) [
    | inl within ↦ nested_levels (length shapes) (suc (length shapes)) p within (omega (arith, within))
    | inr past ↦
        none_within_past (length shapes) p past
        ∙ sym (ap (flat_map (λ d. d ∷ nested_in shapes g d)) (none_below_past p past))
  ]

  nested_closed_at : (k : ℕ) (p d e : Pair) → p.shape < k → Contains (nested_within k shapes g p) d
      → Contains (nested_in shapes g d) e → Contains (nested_within k shapes g p) e
  nested_closed_at zero p d e within c f = absurd (none_in_empty d c)
  nested_closed_at (suc k) p d e within c f =
      let found = nested_cases k shapes g p d c in
      let a = found.0 in
      let below = below_lower p a found.1.0 in
      let is = below_asked shapes g p a found.1.0 in
      let last = slice_get_within shapes p.shape is.shape is.at in
      let deep : a.shape < k = omega (arith, below, within) in
      nested_deeper k shapes g p a e found.1.0 (elim found.1.1 [
        | inl same ↦
            subst (λ ds. Contains ds e)
            (nested_levels (length shapes) k a (omega (arith, below, last)) deep)
            (subst (λ b. Contains (nested_in shapes g b) e) same f)
        | inr deeper ↦ nested_closed_at k a d e deep deeper f
      ])

  pub nested_closed : (p d e : Pair) → Contains (nested_in shapes g p) d → Contains (nested_in shapes g d) e
      → Contains (nested_in shapes g p) e
  nested_closed p d e c f = elim (cases_lt p.shape (length shapes)) [
    | inl within ↦ nested_closed_at (length shapes) p d e within c f
    | inr past ↦
        absurd (none_in_empty d
        (subst (λ ds. Contains ds d) (none_within_past (length shapes) p past) c))
  ]

-- ---- what is read for them

module _ (follows : AnswersFollow) (asks : AsksBelow) (shapes : List PlanShape) (lower : RefersLower shapes)
    (g : Graph) (known : AllKnown g) (plan : IsKnownPlan g.terms shapes) where
  -- what the constraints of a shape read
  abbrev pub constraint_keys : Pair → PlanShape → List Key
  constraint_keys p sh =
      reads_of_each g (pair_reads shapes g) sh.constraints.items (at_of p) (value_nodes g sh.path p.node)

  -- where it is evaluated, what is read for its value nodes and for its constraints is read for the pair
  read_for_pair : (p : Pair) (sh : PlanShape) → slice_get shapes p.shape ≡ Some sh → sh.deactivated ≡ false
      → p.node < length g.terms → (key : Key)
      → Contains (value_reads g sh.path p.node ++ constraint_keys p sh) key
      → Contains (pair_reads shapes g p) key
  read_for_pair p sh at on inside key c =
      let r = pair_reads shapes g in
      let found = follows shapes lower g known plan p sh at inside (results shapes g) r
      (λ d asked. record { rows = refl; reads = SameMembers-itself (r d) }) in
      (found.reads.each key).0
      (subst (λ off. Contains (if off then [] else value_reads g sh.path p.node ++ constraint_keys p sh) key)
      (sym on) c)

  pub below_read : (p d : Pair) → p.node < length g.terms → Contains (pairs_below shapes g p) d
      → (key : Key) → Contains (pair_reads shapes g d) key → Contains (pair_reads shapes g p) key
  below_read p d inside c key read =
      let is = below_asked shapes g p d c in
      let cs = is.shape.constraints.items in
      let vs = value_nodes g is.shape.path p.node in
      let r = pair_reads shapes g in
      let one = Contains-from_flat_map (λ b. constraint_asks b vs) cs d is.asked in
      read_for_pair p is.shape is.at is.on inside key
      (Contains-append_right (value_reads g is.shape.path p.node) (constraint_keys p is.shape) key
      (Contains-flat_map (λ b. constraint_reads b g r (at_of p) vs) cs one.0 key one.1
      (((constraint_adds one.0 g r (at_of p) vs).each key).1
      (inr (Contains-flat_map r (constraint_asks one.0 vs) d key one.2 read)))))

  pub nested_read : (k : ℕ) (p : Pair) → p.node < length g.terms → (d : Pair)
      → Contains (nested_within k shapes g p) d → (key : Key) → Contains (pair_reads shapes g d) key
      → Contains (pair_reads shapes g p) key
  nested_read zero p inside d c key read = absurd (none_in_empty d c)
  nested_read (suc k) p inside d c key read =
      let found = nested_cases k shapes g p d c in
      let a = found.0 in
      below_read p a inside found.1.0 key (elim found.1.1 [
        | inl same ↦ subst (λ b. Contains (pair_reads shapes g b) key) same read
        | inr deeper ↦
            nested_read k a (below_known asks shapes lower g known p a inside found.1.0) d deeper key read
      ])

  -- ---- in another graph that agrees on what is read

  module _ (paths_agree : PathsAgree) (agrees : (c : Constraint) → AgreesAt c) (h : Graph)
      (known' : AllKnown h) where
    asked_same : (o : Option PlanShape) (node : ℕ)
        → ((sh : PlanShape) → o ≡ Some sh → sh.deactivated ≡ false
        → value_nodes g sh.path node ≡ value_nodes h sh.path node)
        → asked_at_node g o node ≡ asked_at_node h o node
    asked_same None node same = refl
    asked_same (Some sh) node same = by sh.deactivated refl
      where
        by : (off : Bool) → sh.deactivated ≡ off
            → (if off then [] else asked_pairs sh.constraints.items (value_nodes g sh.path node))
            ≡ (if off then [] else asked_pairs sh.constraints.items (value_nodes h sh.path node))
        by true is = refl
        by false is = ap (asked_pairs sh.constraints.items) (same sh refl is)

    below_same : (p : Pair) → p.node < length g.terms → Agree g h (Contains (pair_reads shapes g p))
        → pairs_below shapes g p ≡ pairs_below shapes h p
    below_same p inside agree =
        ap (filter (is_evaluated_at shapes)) (asked_same (slice_get shapes p.shape) p.node
        (λ sh at on.
        (values_same paths_agree agrees g h known known' sh.path p.node inside
        (Agree-fewer (Contains (value_reads g sh.path p.node))
        (λ key c. read_for_pair p sh at on inside key
        (Contains-append_left (value_reads g sh.path p.node) (constraint_keys p sh) key c)) agree)).0))

    pub nested_alike : (k : ℕ) (p : Pair) → p.node < length g.terms
        → Agree g h (Contains (pair_reads shapes g p))
        → nested_within k shapes g p ≡ nested_within k shapes h p
    nested_alike zero p inside agree = refl
    nested_alike (suc k) p inside agree =
        flat_map_agree (λ d. d ∷ nested_within k shapes g d) (λ d. d ∷ nested_within k shapes h d)
        (pairs_below shapes g p)
        (λ d c.
        ap (λ ds. d ∷ ds) (nested_alike k d (below_known asks shapes lower g known p d inside c)
        (Agree-fewer (Contains (pair_reads shapes g d)) (below_read p d inside c) agree)))
        ∙ ap (flat_map (λ d. d ∷ nested_within k shapes h d)) (below_same p inside agree)
