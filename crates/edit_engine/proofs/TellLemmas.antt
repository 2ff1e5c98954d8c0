-- What is kept of the pairs tells the report: the results of a shape stand in the order of its target nodes.
use Rattle.std.specs.Prelude.{◌≡◌, ℕ, ◌<◌, ◌+◌, Bool, true, false, List, [], ◌∷◌, ◌++◌, map, flat_map}
use Rattle.std.specs.Prelude.{length, get_or, slice_get, All, Contains, ◌↔◌, nat_eq, cond, zero, suc}
use Rattle.std.specs.List.{AllByRecursion, IsDistinct, list_any}
use Rattle.std.specs.Cmp.{nat_eq_equiv}
use Rattle.std.specs.List.Sorted.{IsStrictlySortedBy}
use Rattle.std.specs.declared.cmp.Ordering.{Ordering}
use Rattle.std.specs.declared.cmp.Ordering.TheVariants.{Less, Equal, Greater}
use Rattle.std.specs.Ordering.{nat_cmp, ordering_then, ordering_reverse}
use Rattle.std.proofs.Common.{refl, sym, ap, ◌∙◌, subst, inl, inr, arith, true≢false, length-append}
use Rattle.std.proofs.lemmas.Bool.{cases_eq, cases_order, eqb-true}
use Rattle.std.proofs.lemmas.List.Folds.{flat_map-map}
use Rattle.std.proofs.lemmas.Grind.{flat_map-append}
use Rattle.std.proofs.lemmas.List.Elements.{All-from_recursion}
use Rattle.std.proofs.lemmas.Map.Keys.{apart_from_distinct, IsDistinct-head, IsDistinct-tail}
use Rattle.std.proofs.lemmas.Option.{get_or_from_slice_get, slice_get-get_or}
use Rattle.shx_term.specs.declared.term.Term.{Term}
use Rattle.shx_term.specs.declared.term.Term.TheVariants.{Iri}
use Rattle.shx_term.specs.IdOrder.{id_cmp}
use Rattle.shx_term.specs.TermOrder.{same_term, term_cmp}
use Rattle.shx_term.specs.inner.TermOrderLaws.{same_term_equiv, same_term_exact, term_cmp_exact}
use Rattle.shx_term.proofs.IdOrderLemmas.{id_cmp_total, in_term_order_lists}
use Rattle.shx_term.proofs.MemberLemmas.{Contains-head, Contains-map}
use Rattle.shx_term.proofs.MemberLemmas.{Contains-cases, Contains-tail, Contains-test, each_of_All}
use Rattle.shx_term.proofs.MemberLemmas.{flat_map_agree, none_in_empty}
use Rattle.graph_view.specs.Graph.{Graph, AllKnown}
use Rattle.graph_view.proofs.PatchedLemmas.{is_false}
use Rattle.graph_view.proofs.ValidLemmas.{AllKnown-valid}
use Rattle.comp_core.specs.declared.row.ResultRow.{ResultRow}
use Rattle.shape_eval.specs.declared.shape.PlanShape.{PlanShape}
use Rattle.shape_eval.specs.Plan.{IsKnownPlan}
use Rattle.shape_eval.specs.Report.{at_shape, report}
use Rattle.shape_eval.specs.Results.{results}
use Rattle.shape_eval.specs.Targets.{nodes_of_target, target_nodes, targets_of}
use Rattle.pair_results.specs.PairResults.{AreInTermOrder, Kept as KeptResults, Nodes, StandInTermOrder}
use Rattle.pair_results.specs.PairResults.{all_rows, nodes_if_any, rows_at, rows_of_nodes, shape_rows}
use Rattle.edit_engine.specs.MayBeAsked.{MayBeAsked}
use Rattle.edit_engine.specs.Pairs.{pairs_of}
use Rattle.edit_engine.specs.declared.kept.Kept.{Kept}
use Rattle.edit_engine.specs.EngineState.{EngineState}
use Rattle.edit_engine.specs.inner.Kept.{AreResults, IsKeptOf}
use Rattle.edit_engine.proofs.RenewedPairLemmas.{Contains-pairs}
use Rattle.edit_engine.proofs.KnownPairLemmas.{target_nodes_known}

-- ---- the terms of numbers in order

-- the term of a number that has one
abbrev term_at : List Term → ℕ → Term
term_at terms id = get_or terms id (Iri [])

same_place : (terms : List Term) → IsDistinct same_term terms → (a b : ℕ) → a < length terms
    → b < length terms → term_at terms a ≡ term_at terms b → a ≡ b
same_place terms distinct a b known known' e = elim (cases_order a b) [
  | inl same ↦ same
  | inr apart ↦ elim apart [
    | inl less ↦ absurd (true≢false (sym (tied (term_at terms a) (term_at terms b) e)
        ∙ apart_from_distinct same_term terms a b (Iri []) distinct less known'))
    | inr more ↦ absurd (true≢false (sym (tied (term_at terms b) (term_at terms a) (sym e))
        ∙ apart_from_distinct same_term terms b a (Iri []) distinct more known))
  ]
]
  where
    tied : (x y : Term) → x ≡ y → same_term x y ≡ true
    tied x y e = ap (same_term x) (sym e) ∙ same_term_equiv.refl x

not_below_itself : (terms : List Term) (a : ℕ) → id_cmp terms a a ≡ Less → ⊥
not_below_itself terms a less =
    let turned : id_cmp terms a a ≡ ordering_reverse (id_cmp terms a a) = (id_cmp_total terms).antisymm a a in
    let other : Less ≡ Greater = sym less ∙ turned ∙ ap ordering_reverse less in
    absurd (cc)

less_terms : (terms : List Term) → IsDistinct same_term terms → (a b : ℕ) → a < length terms
    → b < length terms → id_cmp terms a b ≡ Less → term_cmp (term_at terms a) (term_at terms b) ≡ Less
less_terms terms distinct a b known known' less =
    by (term_cmp (term_at terms a) (term_at terms b)) refl
    (rw (slice_get-get_or terms a (Iri []) known, slice_get-get_or terms b (Iri []) known') at less)
  where
    by : (r : Ordering) → term_cmp (term_at terms a) (term_at terms b) ≡ r
        → ordering_then (term_cmp (term_at terms a) (term_at terms b)) (nat_cmp a b) ≡ Less
        → term_cmp (term_at terms a) (term_at terms b) ≡ Less
    by Less is h = is
    by Greater is h =
        let other : Greater ≡ Less = ap (λ r. ordering_then r (nat_cmp a b)) (sym is) ∙ h in absurd (cc)
    by Equal is h =
        let one = same_place terms distinct a b known known'
        (term_cmp_exact (term_at terms a) (term_at terms b) is) in
        absurd (not_below_itself terms a (ap (id_cmp terms a) one ∙ less))

module _ (terms : List Term) (distinct : IsDistinct same_term terms) where
  less_all : (x : ℕ) (ids : List ℕ) → x < length terms → ((id : ℕ) → Contains ids id → id < length terms)
      → AllByRecursion (λ y. id_cmp terms x y ≡ Less) ids
      → AllByRecursion (λ y. term_cmp (term_at terms x) y ≡ Less) (map (term_at terms) ids)
  less_all x [] inside known all = tt
  less_all x (y ∷ ids) inside known all = (
    less_terms terms distinct x y inside (known y (Contains-head y ids)) all.0,
    less_all x ids inside (λ id c. known id (Contains-tail y id ids c)) all.1,
  )

  -- numbers in the order of their terms have terms in order
  terms_sorted : (ids : List ℕ) → ((id : ℕ) → Contains ids id → id < length terms)
      → IsStrictlySortedBy (id_cmp terms) ids → IsStrictlySortedBy term_cmp (map (term_at terms) ids)
  unfolding IsStrictlySortedBy
  terms_sorted [] known sorted = tt
  terms_sorted (x ∷ ids) known sorted = (
    less_all x ids (known x (Contains-head x ids)) (λ id c. known id (Contains-tail x id ids c)) sorted.0,
    terms_sorted ids (λ id c. known id (Contains-tail x id ids c)) sorted.1,
  )

-- ---- lists of lists

flat_map-flat_map : {X Y Z : Type 0} (f : X → List Y) (h : Y → List Z) (xs : List X)
    → flat_map h (flat_map f xs) ≡ flat_map (λ x. flat_map h (f x)) xs
flat_map-flat_map f h [] = refl
flat_map-flat_map f h (x ∷ xs) =
    flat_map-append h (f x) (flat_map f xs) ∙ ap (λ rest. flat_map h (f x) ++ rest) (flat_map-flat_map f h xs)

none_in_all : {X Y : Type 0} (f : X → List Y) (xs : List X) → ((x : X) → f x ≡ []) → flat_map f xs ≡ []
none_in_all f [] none = refl
none_in_all f (x ∷ xs) none = rw (none x, none_in_all f xs none) refl

-- ---- the results of each shape

-- all that the order of results rests on
pub record AreTold (shapes : List PlanShape) (ns : List ℕ) (g : Graph) (kept : KeptResults) : Type 0 where
  pub valid : AllKnown g
  pub known : IsKnownPlan g.terms shapes
  pub distinct : IsDistinct same_term g.terms
  pub held : AreResults shapes ns g kept
  pub ordered : AreInTermOrder kept
  pub law : StandInTermOrder

module _ (shapes : List PlanShape) (ns : List ℕ) (g : Graph) (kept : KeptResults)
    (told : AreTold shapes ns g kept) where
  abbrev nodes : ℕ → List ℕ
  nodes n = target_nodes shapes g n

  abbrev node_terms : ℕ → List Term
  node_terms n = map (term_at g.terms) (nodes n)

  node_known : (n id : ℕ) → Contains (nodes n) id → id < length g.terms
  node_known n id c =
      each_of_All (λ i. i < length g.terms) (nodes n) (target_nodes_known shapes g told.valid told.known n)
      id c

  sorted_nodes : (n : ℕ) → IsStrictlySortedBy term_cmp (node_terms n)
  sorted_nodes n =
      let ids = flat_map (nodes_of_target g) (targets_of (slice_get shapes n)) in
      terms_sorted g.terms told.distinct (nodes n) (node_known n) (in_term_order_lists g.terms ids).sorted

  -- a node that has results is a target node
  among : (n : ℕ) (node : Term) → (rows_at kept n node ≡ [] → ⊥) → Contains (node_terms n) node
  among n node some = by (list_any (same_term node) (node_terms n)) refl
    where
      test : (list_any (same_term node) (node_terms n) ≡ true) ↔ Contains (node_terms n) node
      test = Contains-test same_term same_term_equiv same_term_exact (node_terms n) node

      by : (b : Bool) → list_any (same_term node) (node_terms n) ≡ b → Contains (node_terms n) node
      by true is = test.0 is
      by false is = absurd (some (told.held.others n node (λ id e c.
          let here = (Contains-pairs nodes ns (at_shape n id)).0 c in
          let held = Contains-map (term_at g.terms) (nodes n) id here.1 in
          let it = get_or_from_slice_get g.terms id node (Iri []) e in
          true≢false (sym (test.1 (subst (Contains (node_terms n)) it held)) ∙ is))))

  shape_rows_by_nodes : (n : ℕ) → shape_rows kept n ≡ flat_map (rows_at kept n) (node_terms n)
  shape_rows_by_nodes n = told.law kept told.ordered n (node_terms n) (sorted_nodes n) (among n)

  shape_rows_are : (n : ℕ) → Contains ns n
      → shape_rows kept n ≡ flat_map (results shapes g) (map (at_shape n) (nodes n))
  shape_rows_are n c =
      shape_rows_by_nodes n
      ∙ flat_map-map (rows_at kept n) (term_at g.terms) (nodes n)
      ∙ flat_map_agree (λ id. rows_at kept n (term_at g.terms id)) (λ id. results shapes g (at_shape n id))
      (nodes n) (λ id d. told.held.pairs (at_shape n id) (term_at g.terms id)
      ((Contains-pairs nodes ns (at_shape n id)).1 (c, d))
      (slice_get-get_or g.terms id (Iri []) (node_known n id d)))
      ∙ sym (flat_map-map (results shapes g) (at_shape n) (nodes n))

  -- a shape that is not targeted has none
  shape_rows_none : (n : ℕ) → (Contains ns n → ⊥) → shape_rows kept n ≡ []
  shape_rows_none n none =
      shape_rows_by_nodes n
      ∙ none_in_all (rows_at kept n) (node_terms n) (λ node.
      told.held.others n node (λ id e c. none ((Contains-pairs nodes ns (at_shape n id)).0 c).0))

  -- the results of the targeted shapes are those of the pairs
  rows_are : flat_map (shape_rows kept) ns ≡ flat_map (results shapes g) (pairs_of shapes ns g)
  rows_are =
      flat_map_agree (shape_rows kept) (λ n. flat_map (results shapes g) (map (at_shape n) (nodes n))) ns
      shape_rows_are
      ∙ sym (flat_map-flat_map (λ n. map (at_shape n) (nodes n)) (results shapes g) ns)

-- ---- how many there are

-- the sum over the numbers below
abbrev below : (ℕ → ℕ) → ℕ → ℕ
below f zero = 0
below f (suc k) = f 0 + below (λ n. f (suc n)) k

below_same : (f h : ℕ → ℕ) (k : ℕ) → ((n : ℕ) → f n ≡ h n) → below f k ≡ below h k
below_same f h zero same = refl
below_same f h (suc k) same =
    let first = same 0 in
    let rest = below_same (λ n. f (suc n)) (λ n. h (suc n)) k (λ n. same (suc n)) in
    omega (arith, first, rest)

below_none : (f : ℕ → ℕ) (k : ℕ) → ((n : ℕ) → f n ≡ 0) → below f k ≡ 0
below_none f zero none = refl
below_none f (suc k) none =
    let first = none 0 in
    let rest = below_none (λ n. f (suc n)) k (λ n. none (suc n)) in
    omega (arith, first, rest)

-- where two functions differ at one number alone, their sums differ by that
below_but_one : (f h : ℕ → ℕ) (k m : ℕ) → m < k → h m ≡ 0 → ((n : ℕ) → (n ≡ m → ⊥) → h n ≡ f n)
    → below f k ≡ f m + below h k
below_but_one f h zero m inside gone same = absurd (omega (arith, inside))
below_but_one f h (suc k) zero inside gone same =
    let rest = below_same (λ n. h (suc n)) (λ n. f (suc n)) k (λ n. same (suc n) (λ e. omega (arith, e))) in
    omega (arith, rest, gone)
below_but_one f h (suc k) (suc m) inside gone same =
    let rest = below_but_one (λ n. f (suc n)) (λ n. h (suc n)) k m (omega (arith, inside)) gone
    (λ n other. same (suc n) (λ e. other (omega (arith, e)))) in
    let first = same 0 (λ e. omega (arith, e)) in
    omega (arith, rest, first)

-- a function but at one number, where it is nothing
abbrev but_at : (ℕ → ℕ) → ℕ → ℕ → ℕ
but_at f m n = cond (nat_eq n m) 0 (f n)

but_at-there : (f : ℕ → ℕ) (m : ℕ) → but_at f m m ≡ 0
but_at-there f m = ap (λ b. cond b 0 (f m)) (nat_eq_equiv.refl m)

but_at-others : (f : ℕ → ℕ) (m n : ℕ) → (n ≡ m → ⊥) → but_at f m n ≡ f n
but_at-others f m n other =
    ap (λ b. cond b 0 (f n)) (is_false (nat_eq n m) (λ h. other (eqb-true n m h)))

abbrev over : (ℕ → ℕ) → List ℕ → ℕ
over f [] = 0
over f (n ∷ ns) = f n + over f ns

length-over : (f : ℕ → List ResultRow) (ns : List ℕ) → length (flat_map f ns) ≡ over (λ n. length (f n)) ns
length-over f [] = refl
length-over f (n ∷ ns) =
    length-append (f n) (flat_map f ns) ∙ ap (λ k. length (f n) + k) (length-over f ns)

sum_same : (f h : ℕ → ℕ) (ns : List ℕ) → ((n : ℕ) → Contains ns n → f n ≡ h n) → over f ns ≡ over h ns
sum_same f h [] same = refl
sum_same f h (m ∷ ns) same =
    let first = same m (Contains-head m ns) in
    let rest = sum_same f h ns (λ n c. same n (Contains-tail m n ns c)) in
    omega (arith, first, rest)

-- the sum over all numbers below is that over those at which there is something
sum_within : (ns : List ℕ) → IsDistinct nat_eq ns → (k : ℕ) → ((n : ℕ) → Contains ns n → n < k)
    → (f : ℕ → ℕ) → ((n : ℕ) → (Contains ns n → ⊥) → f n ≡ 0) → below f k ≡ over f ns
sum_within [] once k within f none = below_none f k (λ n. none n (none_in_empty n))
sum_within (m ∷ ns) once k within f none =
    let h = but_at f m in
    let one = below_but_one f h k m (within m (Contains-head m ns)) (but_at-there f m) (but_at-others f m) in
    let rest = sum_within ns (IsDistinct-tail nat_eq m ns once) k (λ n c. within n (Contains-tail m n ns c)) h
    others in
    let same = sum_same h f ns (λ n c. but_at-others f m n (λ e. absent (subst (Contains ns) e c))) in
    omega (arith, one, rest, same)
  where
    absent : Contains ns m → ⊥
    absent c =
        let apart = All-from_recursion (λ y. nat_eq m y ≡ false) ns (IsDistinct-head nat_eq m ns once) in
        true≢false (sym (nat_eq_equiv.refl m) ∙ each_of_All (λ y. nat_eq m y ≡ false) ns apart m c)

    others : (n : ℕ) → (Contains ns n → ⊥) → but_at f m n ≡ 0
    others n out = elim (cases_eq n m) [
      | inl e ↦ ap (but_at f m) e ∙ but_at-there f m
      | inr other ↦ but_at-others f m n other ∙ none n (λ c. elim (Contains-cases m n ns c) [
        | inl e ↦ other e
        | inr held ↦ out held
      ])
    ]

-- the results of all shapes, shape by shape
all_below : (shapes : List Nodes) → length (flat_map rows_of_nodes shapes)
    ≡ below (λ n. length (rows_of_nodes (nodes_if_any (slice_get shapes n)))) (length shapes)
all_below [] = refl
all_below (nodes ∷ shapes) =
    let rest = all_below shapes in
    length-append (rows_of_nodes nodes) (flat_map rows_of_nodes shapes)
    ∙ ap (λ n. length (rows_of_nodes nodes) + n) rest

-- there are as many results as the pairs have
count_is : (shapes : List PlanShape) (ns : List ℕ) (g : Graph) (kept : KeptResults)
    → AreTold shapes ns g kept → IsDistinct nat_eq ns → All (λ n. n < length shapes) ns
    → length kept.shapes ≡ length shapes
    → length (all_rows kept) ≡ length (flat_map (results shapes g) (pairs_of shapes ns g))
count_is shapes ns g kept told once within places =
    let inside = λ (n : ℕ) (c : Contains ns n).
    subst (λ k. n < k) (sym places) (each_of_All (λ i. i < length shapes) ns within n c) in
    all_below kept.shapes
    ∙ sum_within ns once (length kept.shapes) inside (λ n. length (shape_rows kept n))
    (λ n none. ap length (shape_rows_none shapes ns g kept told n none))
    ∙ sym (length-over (shape_rows kept) ns)
    ∙ ap length (rows_are shapes ns g kept told)

-- ---- the report

module _ (old now : EngineState) (same : old ≡ now) (kept : Kept) (terms : List Term)
    (whole : MayBeAsked old.plan old.graph × IsKeptOf old.plan.shapes old.plan.targeted old.graph kept)
    (pool : terms ≡ old.graph.terms) (distinct : IsDistinct same_term terms)
    (ordered : AreInTermOrder kept.results) (law : StandInTermOrder) where
  told : AreTold old.plan.shapes old.plan.targeted old.graph kept.results
  told = record {
    valid = AllKnown-valid old.graph whole.0.valid;
    known = whole.0.known;
    distinct = subst (IsDistinct same_term) pool distinct;
    held = whole.1.results;
    ordered = ordered;
    law = law;
  }

  -- the results of the targeted shapes are the report
  pub report_rows : (targeted : List ℕ) (rows : List ResultRow) → targeted ≡ old.plan.targeted
      → rows ≡ flat_map (shape_rows kept.results) targeted → rows ≡ report now.plan now.graph
  report_rows targeted rows is found =
      let here : rows ≡ report old.plan old.graph =
      found
      ∙ ap (flat_map (shape_rows kept.results)) is
      ∙ rows_are old.plan.shapes old.plan.targeted old.graph kept.results told in
      subst (λ state. rows ≡ report state.plan state.graph) same here

  -- and there are as many as it has
  pub report_count : (count : ℕ) → count ≡ length (all_rows kept.results)
      → count ≡ length (report now.plan now.graph)
  report_count count is =
      let here : count ≡ length (report old.plan old.graph) =
      is
      ∙ count_is old.plan.shapes old.plan.targeted old.graph kept.results told whole.0.once whole.0.within
      whole.1.places in
      subst (λ state. count ≡ length (report state.plan state.graph)) same here
