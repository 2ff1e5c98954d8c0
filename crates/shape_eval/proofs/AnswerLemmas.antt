-- From the answers that are told to the answer of a pair.
use Rattle.std.specs.Prelude.{◌≡◌, ◌<◌, ◌≤◌, ℕ, suc, true, false, List, [], ◌∷◌, Option, Some}
use Rattle.std.specs.Prelude.{◌+◌, ◌++◌, All, get_or, length, slice_get, take, Contains}
use Rattle.std.specs.Prelude.{filter, flat_map, if◌then◌else◌, is_some, IsSome}
use Rattle.std.proofs.Common.{refl, sym, ap, ◌∙◌, subst, arith, true≢false, inl, inr}
use Rattle.std.proofs.lemmas.List.{take_all, take_more}
use Rattle.std.proofs.lemmas.List.Elements.{All-append}
use Rattle.std.proofs.lemmas.Option.{slice_get_within}
use Rattle.shx_term.specs.Members.{SameMembers}
use Rattle.shx_term.proofs.MemberLemmas.{All_of_each, Contains-at, Contains-cases, Contains-filter}
use Rattle.shx_term.proofs.MemberLemmas.{Contains-flat_map, Contains-from_flat_map, Contains-head}
use Rattle.shx_term.proofs.MemberLemmas.{Contains-one, Contains-tail, each_of_All}
use Rattle.shx_term.proofs.SetLemmas.{SameMembers-itself, SameMembers-sym, SameMembers-then}
use Rattle.graph_view.specs.declared.key.Key.{Key}
use Rattle.graph_view.specs.Graph.{Graph, AllKnown, HasTerms}
use Rattle.graph_view.specs.Notes.{IsNoting}
use Rattle.comp_core.specs.Memo.{Remembered, RemembersAlso}
use Rattle.comp_core.specs.declared.memo.PairAnswer.{PairAnswer}
use Rattle.comp_core.specs.declared.pair.Pair.{Pair}
use Rattle.shape_eval.specs.declared.constraint.Constraint.{Constraint}
use Rattle.shape_eval.specs.declared.shape.PlanShape.{PlanShape}
use Rattle.shape_eval.specs.Constraint.{constraint_asks}
use Rattle.shape_eval.specs.Nested.{asked_at_node, asked_pairs, is_evaluated_at, nested_in, pairs_below}
use Rattle.shape_eval.specs.Own.{asked_key, own_reads}
use Rattle.shape_eval.specs.Plan.{IsKnownPlan, RefersLower}
use Rattle.shape_eval.specs.Recalled.{AreRecalled, AreRight, Brings, IsRecallOf, IsRecalled}
use Rattle.shape_eval.specs.Results.{at_of, hits_of_each, pair_reads, reads_of_each, results}
use Rattle.shape_eval.specs.Results.{shape_reads, shape_results, value_nodes, value_reads}
use Rattle.shape_eval.specs.inner.Answers.{AnswersFollow, AsksBelow, IsAnswer}
use Rattle.shape_eval.specs.inner.Told.{IsHeld, IsToFind, rows_told}
use Rattle.shape_eval.proofs.ConstraintLemmas.{AgreesAt, AsksValuesAt}
use Rattle.shape_eval.proofs.LevelLemmas.{Agree-itself, asked_below, levels, numbers_known}
use Rattle.shape_eval.proofs.NestedLemmas.{below_asked, below_evaluated, nested_is, nested_unfolds}
use Rattle.shape_eval.proofs.RecalledLemmas.{Brings-more, Brings-one, Brings-then, by_pair, recalled_here}
use Rattle.shape_eval.proofs.ShapeLemmas.{PathsAgree, unless_alike}
use Rattle.shape_eval.proofs.ToldLemmas.{told_same}

-- ---- the answer of a pair

module _ (paths_agree : PathsAgree) (agrees : (c : Constraint) → AgreesAt c)
    (asks_values : (c : Constraint) → AsksValuesAt c) where
  pub follow : AnswersFollow
  follow shapes lower g known plan p sh e inside m r same =
      let within = slice_get_within shapes p.shape sh e in
      let n = length shapes in
      let unfolded = levels paths_agree agrees asks_values shapes lower g known plan n (suc n) p within
      (omega (arith, within)) inside in
      let rows : results shapes g p ≡ shape_results g (results shapes g) (Some sh) p =
      subst (λ o. results shapes g p ≡ shape_results g (results shapes g) o p) e unfolded.rows in
      let reads : SameMembers (pair_reads shapes g p) (shape_reads g (pair_reads shapes g) (Some sh) p) =
      subst (λ o. SameMembers (pair_reads shapes g p) (shape_reads g (pair_reads shapes g) o p)) e
      unfolded.reads in
      let found = unless_alike paths_agree agrees g g known known m (results shapes g) r
      (pair_reads shapes g) p inside sh sh.deactivated
      (numbers_known g shapes plan p.shape sh e)
      (λ c i d j on. same d (Contains-flat_map (λ b. constraint_asks b (value_nodes g sh.path p.node))
      sh.constraints.items c d i j)) (Agree-itself g) in
      record {
        rows = found.rows ∙ sym rows;
        reads = SameMembers-then found.reads (SameMembers-sym reads);
      }

pub asks_below : ((c : Constraint) → AsksValuesAt c) → AsksBelow
asks_below asks_values shapes lower n sh e vs d asked =
    let one = Contains-from_flat_map (λ c. constraint_asks c vs) sh.constraints.items d asked in
    (asked_below shapes lower n sh e one.0 one.1 vs d one.2, asks_values one.0 vs d one.2)

-- what is read of a list of what constraints ask, by what was looked at
pub asked_are : (read found : List Pair) (cs ds : List Constraint) (vs us ws : List ℕ) → read ≡ found
    → found ≡ asked_pairs cs vs → cs ≡ ds → vs ≡ us → us ≡ ws → read ≡ asked_pairs ds ws
asked_are read found cs ds vs us ws is asked e f more =
    is ∙ asked ∙ ap (λ ks. asked_pairs ks vs) e ∙ ap (asked_pairs ds) (f ∙ more)

-- a pair that the shape of another asks
pub record IsOneAsked (g : Graph) (p : Pair) (sh : PlanShape) (d : Pair) : Type 0 where
  pub lower : d.shape < p.shape
  pub node : d.node < length g.terms
  pub asked : Contains (asked_pairs sh.constraints.items (value_nodes g sh.path p.node)) d

-- the pair at an index of those that are asked
pub asked_at : AsksBelow → (shapes : List PlanShape) → RefersLower shapes → (g : Graph) (p : Pair)
    (sh : PlanShape) → slice_get shapes p.shape ≡ Some sh → HasTerms g (value_nodes g sh.path p.node)
    → (asked : List Pair) → asked ≡ asked_pairs sh.constraints.items (value_nodes g sh.path p.node)
    → (i : ℕ) (e : Pair) → i < length asked → IsOneAsked g p sh (get_or asked i e)
asked_at asks shapes lower g p sh at known asked is i e inside =
    let vs = value_nodes g sh.path p.node in
    let here = subst (λ ds. Contains ds (get_or asked i e)) is (Contains-at asked i e inside) in
    let found = asks shapes lower p.shape sh at vs (get_or asked i e) here in
    record {
      lower = found.0;
      node = each_of_All (λ v. v < length g.terms) vs known (get_or asked i e).node found.1;
      asked = here;
    }

-- ---- the pairs that are asked, one after the other

module _ {N : Type 0} where
  -- a step of a loop over what has to be held
  pub more_held : (shapes : List PlanShape) (t u : Pair → Option (Remembered N))
      → ((p : Pair) → IsRecalled t p → IsRecalled u p) → (asked : List Pair) (i : ℕ) (e : Pair)
      → i < length asked → All (IsHeld shapes t) (take i asked) → IsHeld shapes u (get_or asked i e)
      → All (IsHeld shapes u) (take (i + 1) asked)
  more_held shapes t u stays asked i e inside before here =
      subst (All (IsHeld shapes u)) (sym (take_more asked i e inside))
      (All-append (IsHeld shapes u) (take i asked) (get_or asked i e ∷ [])
      (All_of_each (IsHeld shapes u) (take i asked)
      (λ p c.
      let was = each_of_All (IsHeld shapes t) (take i asked) before p c in
      record { held = λ on. stays p (was.held on) }))
      (All_of_each (IsHeld shapes u) (get_or asked i e ∷ [])
      (λ p c. subst (IsHeld shapes u) (sym ((Contains-one (get_or asked i e) p).0 c)) here)))

  -- at its end all is held
  pub all_held : (shapes : List PlanShape) (t : Pair → Option (Remembered N)) (asked all : List Pair) (i : ℕ)
      → length asked ≤ i → All (IsHeld shapes t) (take i asked) → asked ≡ all → All (IsHeld shapes t) all
  all_held shapes t asked all i past held same =
      subst (All (IsHeld shapes t)) (take_all i asked past ∙ same) held

module _ (asks : AsksBelow) (shapes : List PlanShape) (lower : RefersLower shapes) (g : Graph) (p : Pair)
    (sh : PlanShape) (at : slice_get shapes p.shape ≡ Some sh) (on : sh.deactivated ≡ false) where
  -- what the shape asks at the node
  abbrev pub asked_here : List Pair
  asked_here = asked_pairs sh.constraints.items (value_nodes g sh.path p.node)

  -- what is asked of a shape that is evaluated is right below
  asked_is_below : (d : Pair) → Contains asked_here d → is_evaluated_at shapes d ≡ true
      → Contains (pairs_below shapes g p) d
  asked_is_below d asked evaluated =
      Contains-filter (is_evaluated_at shapes) (asked_at_node g (slice_get shapes p.shape) p.node) d
      (subst (λ o. Contains (asked_at_node g o p.node) d) (sym at)
      (subst (λ off. Contains (if off then [] else asked_here) d) (sym on) asked)) evaluated

  -- and what is right below is asked
  asked_there : (d : Pair) → Contains (pairs_below shapes g p) d → Contains asked_here d
  asked_there d c =
      let found = below_asked shapes g p d c in
      subst (λ (s : PlanShape). Contains (asked_pairs s.constraints.items (value_nodes g s.path p.node)) d)
      (some_is found.shape sh (sym found.at ∙ at)) found.asked
    where
      some_is : (x y : PlanShape) → Some x ≡ Some y → x ≡ y
      some_is x y e = cc

  asked_nested : (d : Pair) → Contains asked_here d → is_evaluated_at shapes d ≡ true
      → Contains (nested_in shapes g p) d
  asked_nested d asked evaluated =
      subst (λ ds. Contains ds d) (sym (nested_unfolds asks shapes lower g p))
      (Contains-flat_map (λ b. b ∷ nested_in shapes g b) (pairs_below shapes g p) d d
      (asked_is_below d asked evaluated) (Contains-head d (nested_in shapes g d)))

  nested_of_asked : (d : Pair) → Contains asked_here d → is_evaluated_at shapes d ≡ true → (e : Pair)
      → Contains (nested_in shapes g d) e → Contains (nested_in shapes g p) e
  nested_of_asked d asked evaluated e c =
      subst (λ ds. Contains ds e) (sym (nested_unfolds asks shapes lower g p))
      (Contains-flat_map (λ b. b ∷ nested_in shapes g b) (pairs_below shapes g p) d e
      (asked_is_below d asked evaluated) (Contains-tail d e (nested_in shapes g d) c))

  -- where all that is asked is held, all that is nested is remembered
  pub nested_recalled : {N : Type 0} (has : N → List Key → Type 0) (t : Pair → Option (Remembered N))
      → IsRecallOf has shapes g t → All (IsHeld shapes t) asked_here → AreRecalled t (nested_in shapes g p)
  nested_recalled has t is held = record {
    each = λ e c.
        let at_one = Contains-from_flat_map (λ b. b ∷ nested_in shapes g b) (pairs_below shapes g p) e
        (subst (λ ds. Contains ds e) (nested_unfolds asks shapes lower g p) c) in
        let a = at_one.0 in
        let here : IsRecalled t a =
        (each_of_All (IsHeld shapes t) asked_here held a (asked_there a at_one.1)).held
        (below_evaluated shapes g p a at_one.1) in
        elim (Contains-cases a e (nested_in shapes g a) at_one.2) [
          | inl same ↦ subst (IsRecalled t) (sym same) here
          | inr deeper ↦ (is.closed.each a here).each e deeper
        ];
  }

  -- ---- one of them is answered, remembered and counted

  module _ (known : AllKnown g) (d : Pair) (one : IsOneAsked g p sh d) {N : Type 0}
      (first before mid after : Pair → Option (Remembered N)) (answer : Remembered N)
      (to_find : IsToFind shapes before d) (also : RemembersAlso mid after d answer) where
    -- what its own answer brought is of lower shapes
    still_absent : (m n : ℕ) → Brings before mid (nested_in shapes g d) m n → IsRecalled mid d → ⊥
    still_absent m n brings there = elim ((brings.known d).0 there) [
      | inl was ↦ true≢false (sym was ∙ ap is_some to_find.absent)
      | inr c ↦
          let below = (nested_is asks shapes lower g known (length shapes) d one.node d
          (brings.are_among d c)).lower in
          absurd (omega (arith, below))
    ]

    pub brings_below : (k m n : ℕ) → Brings first before (nested_in shapes g p) k m
        → Brings before mid (nested_in shapes g d) m n
        → Brings first after (nested_in shapes g p) k (n + 1)
    brings_below k m n so_far inner =
        Brings-then first before after (nested_in shapes g p) k m (n + 1) so_far
        (Brings-then before mid after (nested_in shapes g p) m n (n + 1)
        (Brings-more (nested_in shapes g p)
        (λ e c. nested_of_asked d one.asked to_find.evaluated e c) inner)
        (Brings-more (nested_in shapes g p)
        (λ e c. subst (Contains (nested_in shapes g p)) (sym ((Contains-one d e).0 c))
        (asked_nested d one.asked to_find.evaluated))
        (Brings-one mid after d answer also (still_absent m n inner) n)))

    pub stays_below : (m n : ℕ) → Brings before mid (nested_in shapes g d) m n → (q : Pair)
        → IsRecalled before q → IsRecalled after q
    stays_below m n inner q was =
        by_pair mid after d answer also (λ e o. IsSome o) refl q ((inner.known q).1 (inl was))

    pub held_below : IsHeld shapes after d
    held_below = record { held = λ on. ap is_some (recalled_here mid after d answer also) }

-- a shape that is passed over nests none
pub off_nests_none : AsksBelow → (shapes : List PlanShape) → RefersLower shapes → (g : Graph) (p : Pair)
    (sh : PlanShape) → slice_get shapes p.shape ≡ Some sh → sh.deactivated ≡ true → nested_in shapes g p ≡ []
off_nests_none asks shapes lower g p sh at off =
    nested_unfolds asks shapes lower g p
    ∙ ap (λ o. flat_map (λ d. d ∷ nested_in shapes g d)
    (filter (is_evaluated_at shapes) (asked_at_node g o p.node))) at
    ∙ ap (λ b. flat_map (λ d. d ∷ nested_in shapes g d) (filter (is_evaluated_at shapes)
    (if b then [] else asked_pairs sh.constraints.items (value_nodes g sh.path p.node)))) off

-- ---- the answer of a pair that is passed over, and of any other

module _ (follows : AnswersFollow) (shapes : List PlanShape) (lower : RefersLower shapes) (g : Graph)
    (known : AllKnown g) (plan : IsKnownPlan g.terms shapes) (p : Pair) (sh : PlanShape)
    (e : slice_get shapes p.shape ≡ Some sh) (inside : p.node < length g.terms) {N : Type 0}
    (has : N → List Key → Type 0)
  where
    -- what is read for the pair itself is what its shape reads
    own_is : own_reads shapes g p ≡ shape_reads g (asked_key shapes) (Some sh) p
    own_is = ap (λ o. shape_reads g (asked_key shapes) o p) e

    -- a deactivated shape
    pub off_answer : sh.deactivated ≡ true → (answer : PairAnswer N) → answer.rows.items ≡ []
        → has answer.reads [] → IsAnswer has shapes g p answer
    off_answer off answer no_rows no_reads =
        let found = follows shapes lower g known plan p sh e inside (results shapes g) (pair_reads shapes g)
        (λ d asked. record { rows = refl; reads = SameMembers-itself (pair_reads shapes g d) }) in
        let vs = value_nodes g sh.path p.node in
        let cs = sh.constraints.items in
        let rows : shape_results g (results shapes g) (Some sh) p ≡ [] =
        ap (λ b. if b then [] else hits_of_each g (results shapes g) cs (at_of p) vs) off in
        let reads : shape_reads g (asked_key shapes) (Some sh) p ≡ [] =
        ap (λ b. if b then [] else value_reads g sh.path p.node
        ++ reads_of_each g (asked_key shapes) cs (at_of p) vs) off in
        record {
          rows = no_rows ∙ sym rows ∙ found.rows;
          reads = subst (has answer.reads) (sym (own_is ∙ reads)) no_reads;
        }

    -- a shape over answers for all that it asks; ks and vs are its constraints and value nodes, as they are
    -- read, and what was noted may be packed
    pub on_answer : {notes : N → N → List Key → Type 0} → IsNoting notes
        → ((a b : N) (keys more : List Key) → has a keys → notes a b more → has b (keys ++ more))
        → (t : Pair → Option (Remembered N)) → AreRight has shapes g t → sh.deactivated ≡ false
        → All (IsHeld shapes t) (asked_pairs sh.constraints.items (value_nodes g sh.path p.node))
        → (ks : List Constraint) → ks ≡ sh.constraints.items → (vs us : List ℕ) → vs ≡ us
        → us ≡ value_nodes g sh.path p.node → (answer : PairAnswer N)
        → answer.rows.items ≡ hits_of_each g (rows_told shapes t) ks (at_of p) vs
        → (old mid new : N) → has old [] → notes old mid (value_reads g sh.path p.node)
        → notes mid new (reads_of_each g (asked_key shapes) ks (at_of p) vs)
        → ((keys : List Key) → has new keys → has answer.reads keys) → IsAnswer has shapes g p answer
    on_answer {notes} laws has_more t right on held ks stated vs us found values answer rows old mid new none
        first second packed =
        let cs = sh.constraints.items in
        let ws = value_nodes g sh.path p.node in
        let m = rows_told shapes t in
        let r = asked_key shapes in
        let follow = follows shapes lower g known plan p sh e inside m (pair_reads shapes g)
        (λ d c. record {
          rows = told_same shapes t d has g right
              (each_of_All (IsHeld shapes t) (asked_pairs cs ws) held d c);
          reads = SameMembers-itself (pair_reads shapes g d);
        }) in
        let all_rows : shape_results g m (Some sh) p ≡ hits_of_each g m cs (at_of p) ws =
        ap (λ b. if b then [] else hits_of_each g m cs (at_of p) ws) on in
        let reads = value_reads g sh.path p.node in
        let more = reads_of_each g r cs (at_of p) ws in
        let all_reads : shape_reads g r (Some sh) p ≡ reads ++ more =
        ap (λ b. if b then [] else reads ++ more) on in
        let added : notes mid new more =
        subst (λ ns. notes mid new (reads_of_each g r cs (at_of p) ns)) (found ∙ values)
        (subst (λ ds. notes mid new (reads_of_each g r ds (at_of p) vs)) stated second) in
        record {
          rows = rows ∙ ap (λ ds. hits_of_each g m ds (at_of p) vs) stated
              ∙ ap (hits_of_each g m cs (at_of p)) (found ∙ values) ∙ sym all_rows ∙ follow.rows;
          reads = packed (own_reads shapes g p)
              (subst (has new) (sym (own_is ∙ all_reads))
              (has_more old new [] (reads ++ more) none (laws.then reads more first added)));
        }
