-- Nodes of which no changed triple tells stay target nodes, or none.
use Rattle.std.specs.Prelude.{◌≡◌, ℕ, ◌≤◌, true, not, ◌++◌, nat_eq, List, [], ◌∷◌, filter, flat_map, length}
use Rattle.std.specs.Prelude.{Bool, false, ◌&&◌, Option, Some, None, MatchOption, slice_get, take, Contains}
use Rattle.std.specs.Prelude.{◌↔◌, ◌⊎◌}
use Rattle.std.specs.Cmp.{nat_eq_equiv}
use Rattle.std.specs.List.{list_any}
use Rattle.std.specs.Ordering.{nat_cmp}
use Rattle.std.specs.Option.{option_to_list}
use Rattle.std.proofs.Common.{refl, sym, ap, ◌∙◌, subst, inl, inr, arith, true≢false, append_assoc}
use Rattle.std.proofs.Common.{append-nil}
use Rattle.std.proofs.lemmas.Bool.{eqb-true}
use Rattle.std.proofs.lemmas.Grind.{flat_map-append}
use Rattle.std.proofs.lemmas.List.{take_all}
use Rattle.std.proofs.lemmas.List.Elements.{Contains-append_cases, Contains-append_left}
use Rattle.std.proofs.lemmas.List.Elements.{Contains-append_right}
use Rattle.shx_term.specs.Chains.{Chain}
use Rattle.shx_term.specs.InOrder.{Lists}
use Rattle.shx_term.specs.Members.{SameMembers}
use Rattle.shx_term.specs.declared.triple.Triple.{Triple}
use Rattle.shx_term.specs.declared.vocabulary.TheConstants.{RDF_TYPE, RDFS_SUB_CLASS_OF}
use Rattle.shx_term.specs.Triple.{same_triple}
use Rattle.shx_term.specs.inner.TripleLaws.{same_triple_equiv, same_triple_exact}
use Rattle.shx_term.proofs.IdOrderLemmas.{in_term_order_lists}
use Rattle.shx_term.proofs.MemberLemmas.{Contains-filter, Contains-flat_map, Contains-from_filter}
use Rattle.shx_term.proofs.MemberLemmas.{Contains-from_flat_map, Contains-from_map, Contains-head}
use Rattle.shx_term.proofs.MemberLemmas.{Contains-map, Contains-one, Contains-test, none_in_empty}
use Rattle.graph_view.specs.declared.key.Key.{Key}
use Rattle.graph_view.specs.declared.key.Key.TheVariants.{Out, In}
use Rattle.graph_view.specs.Graph.{AllKnown, Graph, triples_with}
use Rattle.graph_view.specs.Patched.{patched}
use Rattle.graph_view.specs.Key.{look}
use Rattle.graph_view.proofs.KeyLemmas.{Contains-look}
use Rattle.graph_view.proofs.LookUpLemmas.{Contains-triples_with}
use Rattle.graph_view.proofs.PatchedLemmas.{Contains-patched, is_not}
use Rattle.graph_view.proofs.SameGraphLemmas.{IsDistinct-filter}
use Rattle.comp_core.specs.Rows.{is_empty}
use Rattle.path_eval.specs.declared.direction.Direction.TheVariants.{Backward}
use Rattle.path_eval.specs.Instances.{instance_route, IsInstance}
use Rattle.path_eval.specs.Relation.{PathReads}
use Rattle.path_eval.proofs.ChainLemmas.{Chain-keeps, chain_here, chain_step}
use Rattle.path_eval.proofs.InstanceLemmas.{instance_test}
use Rattle.path_eval.proofs.MeetsLemmas.{path_lists}
use Rattle.path_eval.proofs.PathReadsLemmas.{path_reads_are}
use Rattle.shape_eval.specs.declared.shape.PlanShape.{PlanShape}
use Rattle.shape_eval.specs.declared.target.Target.{Target}
use Rattle.shape_eval.specs.declared.target.Target.TheVariants as target
use Rattle.shape_eval.specs.Targets.{nodes_of_target, nodes_of_targets, reads_of_target, target_nodes}
use Rattle.shape_eval.specs.Targets.{target_reads, targets_of}
use Rattle.shape_eval.proofs.AscendingLemmas.{IsDistinct-ascending}
use Rattle.edit_engine.specs.Renewal.{IsDifference}
use Rattle.edit_engine.specs.inner.Told.{NoSubclass, instances_told, is_class, is_node_of, is_node_of_any}
use Rattle.edit_engine.specs.inner.Told.{is_only_in, is_subclass, node_told, nodes_told, told_by}
use Rattle.edit_engine.proofs.RenewedPairLemmas.{among_or_not}
use Rattle.edit_engine.proofs.TestLemmas.{any_from, any_to, first_alone, only_first}

-- ---- target nodes as a relation over triples

abbrev IsWider : List Triple → ℕ → ℕ → Type 0
IsWider ts s o = Contains ts (record { s = s; p = RDFS_SUB_CLASS_OF; o = o })

abbrev IsNodeOf : List Triple → Target → ℕ → Type 0
IsNodeOf ts (target.Node node) x = x ≡ node
IsNodeOf ts (target.Class class) x = IsInstance ts x class
IsNodeOf ts (target.SubjectsOf p) x = (o : ℕ) × Contains ts (record { s = x; p = p; o = o })
IsNodeOf ts (target.ObjectsOf p) x = (s : ℕ) × Contains ts (record { s = s; p = p; o = x })

not_empty : {X : Type 0} (xs : List X) → (not (is_empty xs) ≡ true) ↔ ((x : X) × Contains xs x)
not_empty [] = (λ e. absurd (cc), λ h. absurd (none_in_empty h.0 h.1))
not_empty (x ∷ xs) = (
  λ e. (x, Contains-head x xs),
  λ h. is_not (is_empty (x ∷ xs)) (λ e. absurd (omega (arith, eqb-true (length (x ∷ xs)) 0 e))),
)

module _ (g : Graph) (known : AllKnown g) where
  nodes_are : (t : Target) (x : ℕ) → Contains (nodes_of_target g t) x ↔ IsNodeOf g.triples t x
  nodes_are (target.Node node) x = Contains-one node x
  nodes_are (target.Class class) x = (path_lists g known Backward instance_route class).each x
  nodes_are (target.SubjectsOf p) x = (
    λ c.
        let from = Contains-from_map (λ (t : Triple). t.s) (triples_with g p) x c in
        let t = from.0 in
        let held = (Contains-triples_with g p t).0 from.1 in
        let same : t ≡ record { s = x; p = p; o = t.o } =
        λ i. record { s = sym from.2 i; p = held.1 i; o = t.o } in
        (t.o, subst (Contains g.triples) same held.0),
    λ h.
        let t : Triple = record { s = x; p = p; o = h.0 } in
        Contains-map (λ (u : Triple). u.s) (triples_with g p) t
        ((Contains-triples_with g p t).1 (h.1, refl)),
  )
  nodes_are (target.ObjectsOf p) x = (
    λ c.
        let from = Contains-from_map (λ (t : Triple). t.o) (triples_with g p) x c in
        let t = from.0 in
        let held = (Contains-triples_with g p t).0 from.1 in
        let same : t ≡ record { s = t.s; p = p; o = x } =
        λ i. record { s = t.s; p = held.1 i; o = sym from.2 i } in
        (t.s, subst (Contains g.triples) same held.0),
    λ h.
        let t : Triple = record { s = h.0; p = p; o = x } in
        Contains-map (λ (u : Triple). u.o) (triples_with g p) t
        ((Contains-triples_with g p t).1 (h.1, refl)),
  )

  node_test : (t : Target) (x : ℕ) → (is_node_of g x t ≡ true) ↔ IsNodeOf g.triples t x
  node_test (target.Node node) x =
      (λ h. sym (eqb-true node x h), λ e. subst (λ y. nat_eq node y ≡ true) (sym e) (nat_eq_equiv.refl node))
  node_test (target.Class class) x = instance_test g known x class
  node_test (target.SubjectsOf p) x =
      let some = not_empty (look g.triples (Out x p)) in (
        λ e.
            let h = some.0 e in
            let here = (Contains-look g.triples (Out x p) h.0).0 h.1 in
            let same : h.0 ≡ record { s = x; p = p; o = h.0.o } =
            λ i. record { s = here.1.0 i; p = here.1.1 i; o = h.0.o } in
            (h.0.o, subst (Contains g.triples) same here.0),
        λ h.
            let t : Triple = record { s = x; p = p; o = h.0 } in
            some.1 (t, (Contains-look g.triples (Out x p) t).1 (h.1, (refl, refl))),
      )
  node_test (target.ObjectsOf p) x =
      let some = not_empty (look g.triples (In p x)) in (
        λ e.
            let h = some.0 e in
            let here = (Contains-look g.triples (In p x) h.0).0 h.1 in
            let same : h.0 ≡ record { s = h.0.s; p = p; o = x } =
            λ i. record { s = h.0.s; p = here.1.0 i; o = here.1.1 i } in
            (h.0.s, subst (Contains g.triples) same here.0),
        λ h.
            let t : Triple = record { s = h.0; p = p; o = x } in
            some.1 (t, (Contains-look g.triples (In p x) t).1 (h.1, (refl, refl))),
      )

  -- a node of one of the targets
  any_node : (ts : List Target) (x : ℕ) → Contains (nodes_of_targets g ts) x
      ↔ ((t : Target) × Contains ts t × IsNodeOf g.triples t x)
  any_node ts x =
      let listed = (in_term_order_lists g.terms (flat_map (nodes_of_target g) ts)).each x in (
        λ c.
            let from = Contains-from_flat_map (nodes_of_target g) ts x (listed.0 c) in
            (from.0, from.1, (nodes_are from.0 x).0 from.2),
        λ h.
            listed.1 (Contains-flat_map (nodes_of_target g) ts h.0 x h.1 ((nodes_are h.0 x).1 h.2)),
      )

  -- the test finds exactly the target nodes
  any_node_test : (ts : List Target) (x : ℕ)
      → (is_node_of_any g ts x ≡ true) ↔ Contains (nodes_of_targets g ts) x
  any_node_test ts x =
      let all = any_node ts x in (
        λ e.
            let found = any_from (is_node_of g x) ts e in
            all.1 (found.0, found.1, (node_test found.0 x).0 found.2),
        λ c.
            let h = all.0 c in
            any_to (is_node_of g x) ts h.0 h.1 ((node_test h.0 x).1 h.2),
      )

-- ---- what stays

-- the same triples, but for the changed ones
pub record SameBeside (changed ts us : List Triple) : Type 0 where
  pub each : (t : Triple) → (Contains changed t → ⊥) → Contains ts t ↔ Contains us t

pub SameBeside-patched : (g h : Graph) (added removed : List Triple) → h ≡ patched g added removed
    → SameBeside (added ++ removed) g.triples h.triples
SameBeside-patched g h added removed is =
    subst (λ (k : Graph). SameBeside (added ++ removed) g.triples k.triples) (sym is) (record {
      each = λ t none.
          let are = Contains-patched g added removed t in (
            λ c. are.1 (inl (c, λ d. none (Contains-append_right added removed t d))),
            λ c. elim (are.0 c) [
              | inl d ↦ d.0
              | inr d ↦ absurd (none (Contains-append_left added removed t d))
            ],
          );
    })

pub SameBeside-back : {changed ts us : List Triple} → SameBeside changed ts us → SameBeside changed us ts
SameBeside-back same = record { each = λ t none. ((same.each t none).1, (same.each t none).0) }

-- no subclass is among the changed triples
pub record NoneChanges (changed : List Triple) : Type 0 where
  pub none : (t : Triple) → Contains changed t → is_subclass t ≡ true → ⊥

pub NoneChanges-both : (added removed : List Triple) → NoSubclass added × NoSubclass removed
    → NoneChanges (added ++ removed)
NoneChanges-both added removed both = record {
  none = λ t c h. elim (Contains-append_cases added removed t c) [
    | inl d ↦ true≢false (sym (any_to is_subclass added t d h) ∙ both.0)
    | inr d ↦ true≢false (sym (any_to is_subclass removed t d h) ∙ both.1)
  ];
}

-- what is read for the instances of a class depends on subclasses alone
module _ {changed ts us : List Triple} (none : NoneChanges changed) (same : SameBeside changed ts us) where
  wider : (s o : ℕ) → IsWider ts s o → IsWider us s o
  wider s o = (same.each _ (λ d. none.none _ d refl)).0

  chain_kept : (x y : ℕ) → Chain (IsWider ts) x y → Chain (IsWider us) x y
  chain_kept x y chain =
      Chain-keeps (IsWider ts) (Chain (IsWider us) x)
      (λ z w c step. chain_step (IsWider us) x z w c (wider z w step)) x y chain
      (chain_here (IsWider us) x)

  class_reads_kept : (class : ℕ) (k : Key) → PathReads ts Backward instance_route class k
      → PathReads us Backward instance_route class k
  class_reads_kept class k h = elim h [
    | inl more ↦ elim more [
      | inl none ↦ absurd none
      | inr m ↦ inl (inr (m.0, m.1, (m.2.0, chain_kept m.2.0 m.0 m.2.1, m.2.2)))
    ]
    | inr m ↦ inr (m.0, (m.1.0, chain_kept m.0 m.1.0 m.1.1, m.1.2), m.2)
  ]

changed_or_not : (changed : List Triple) (t : Triple) → Contains changed t ⊎ (Contains changed t → ⊥)
changed_or_not changed t =
    by_test (list_any (same_triple t) changed)
    (Contains-test same_triple same_triple_equiv same_triple_exact changed t)
  where
    by_test : (b : Bool) → (b ≡ true) ↔ Contains changed t → Contains changed t ⊎ (Contains changed t → ⊥)
    by_test true decides = inl (decides.0 refl)
    by_test false decides = inr (λ c. true≢false (sym (decides.1 c)))

-- a node is an instance of a class, in both graphs, of which a subclass triple that changed tells
record IsBelowChange (changed ts us : List Triple) (x : ℕ) : Type 0 where
  pub class : ℕ
  pub above : ℕ
  pub changes : Contains changed (record { s = class; p = RDFS_SUB_CLASS_OF; o = above })
  pub was : IsInstance ts x class
  pub is : IsInstance us x class

-- so a node whose types stay, and that is below no change, stays an instance: up to the first subclass that
-- changed, the graphs agree
module _ {changed ts us : List Triple} (same : SameBeside changed ts us) (x kind : ℕ)
    (first : Contains ts (record { s = x; p = RDF_TYPE; o = kind }))
    (second : Contains us (record { s = x; p = RDF_TYPE; o = kind })) where
  abbrev AreReached : ℕ → Type 0
  AreReached z = (Chain (IsWider ts) kind z × Chain (IsWider us) kind z) ⊎ IsBelowChange changed ts us x

  reached_more : (z w : ℕ) → AreReached z → IsWider ts z w → AreReached w
  reached_more z w before step = elim before [
    | inl both ↦ elim (changed_or_not changed (record { s = z; p = RDFS_SUB_CLASS_OF; o = w })) [
      | inl c ↦ inr (record {
        class = z;
        above = w;
        changes = c;
        was = (kind, first, (z, both.0, refl));
        is = (kind, second, (z, both.1, refl));
      })
      | inr free ↦ inl (
        chain_step (IsWider ts) kind z w both.0 step,
        chain_step (IsWider us) kind z w both.1 ((same.each _ free).0 step),
      )
    ]
    | inr below ↦ inr below
  ]

  reached : (z : ℕ) → Chain (IsWider ts) kind z → AreReached z
  reached z chain =
      Chain-keeps (IsWider ts) AreReached reached_more kind z chain
      (inl (chain_here (IsWider ts) kind, chain_here (IsWider us) kind))

-- what is told of is known of one of the graphs
module _ {changed ts us : List Triple} (same : SameBeside changed ts us) (g : Graph) (known : AllKnown g)
    (one : (x class : ℕ) → IsInstance ts x class → IsInstance us x class → IsInstance g.triples x class)
    (targets : List Target) where
  is_told : (t : Target) (u : Triple) (x : ℕ) → Contains targets t → Contains changed u
      → node_told t u ≡ Some x → Contains (nodes_told g targets changed) x
  is_told t u x c d e =
      Contains-flat_map (told_by g targets) changed u x d
      (Contains-append_left (flat_map (λ a. option_to_list (node_told a u)) targets)
      (instances_told g targets u) x
      (Contains-flat_map (λ a. option_to_list (node_told a u)) targets t x c
      (subst (λ o. Contains (option_to_list o) x) (sym e) (Contains-head x []))))

  below_told : (class x : ℕ) → Contains targets (target.Class class) → IsBelowChange changed ts us x
      → Contains (nodes_told g targets changed) x
  below_told class x c below =
      let u : Triple = record { s = below.class; p = RDFS_SUB_CLASS_OF; o = below.above } in
      let is_one : is_subclass u && list_any is_class targets ≡ true =
      any_to is_class targets (target.Class class) c refl in
      let among = ((path_lists g known Backward instance_route below.class).each x).1
      (one x below.class below.was below.is) in
      Contains-flat_map (told_by g targets) changed u x below.changes
      (Contains-append_right (flat_map (λ a. option_to_list (node_told a u)) targets)
      (instances_told g targets u) x (rw is_one among))

  instance_kept : (class x : ℕ) → Contains targets (target.Class class)
      → (Contains (nodes_told g targets changed) x → ⊥) → IsInstance ts x class → IsInstance us x class
  instance_kept class x c none h =
      let typed = (same.each _ (λ d. none (is_told (target.Class class) _ x c d refl))).0 h.1 in
      elim (reached same x h.0 h.1 typed h.2.0 h.2.1) [
        | inl both ↦ (h.0, typed, (h.2.0, both.1, h.2.2))
        | inr below ↦ absurd (none (below_told class x c below))
      ]

  node_kept : (t : Target) (x : ℕ) → Contains targets t → (Contains (nodes_told g targets changed) x → ⊥)
      → IsNodeOf ts t x → IsNodeOf us t x
  node_kept (target.Node node) x c none h = h
  node_kept (target.Class class) x c none h = instance_kept class x c none h
  node_kept (target.SubjectsOf p) x c none h =
      let e : node_told (target.SubjectsOf p) (record { s = x; p = p; o = h.0 }) ≡ Some x =
      rw (nat_eq_equiv.refl p) refl in
      (h.0, (same.each _ (λ d. none (is_told (target.SubjectsOf p) _ x c d e))).0 h.1)
  node_kept (target.ObjectsOf p) x c none h =
      let e : node_told (target.ObjectsOf p) (record { s = h.0; p = p; o = x }) ≡ Some x =
      rw (nat_eq_equiv.refl p) refl in
      (h.0, (same.each _ (λ d. none (is_told (target.ObjectsOf p) _ x c d e))).0 h.1)

-- ---- two graphs

-- what is read for the target where no subclass changes
module _ {changed : List Triple} (g h : Graph) (known_g : AllKnown g) (known_h : AllKnown h)
    (none : NoneChanges changed) (same : SameBeside changed g.triples h.triples) where
  reads_kept : (t : Target) (k : Key) → Contains (reads_of_target g t) k → Contains (reads_of_target h t) k
  reads_kept (target.Node node) k c = c
  reads_kept (target.Class class) k c =
      (path_reads_are h known_h Backward instance_route class k).1
      (class_reads_kept none same class k
      ((path_reads_are g known_g Backward instance_route class k).0 c))
  reads_kept (target.SubjectsOf p) k c = c
  reads_kept (target.ObjectsOf p) k c = c

  target_reads_kept : (shapes : List PlanShape) (n : ℕ) (k : Key)
      → Contains (target_reads shapes g n) k → Contains (target_reads shapes h n) k
  target_reads_kept shapes n k c =
      let targets = targets_of (slice_get shapes n) in
      let from = Contains-from_flat_map (reads_of_target g) targets k c in
      Contains-flat_map (reads_of_target h) targets from.0 k from.1 (reads_kept from.0 k from.2)

pub SameMembers-reads_told : {changed : List Triple} (g h : Graph) → AllKnown g → AllKnown h
    → NoneChanges changed → SameBeside changed g.triples h.triples → (shapes : List PlanShape) (n : ℕ)
    → SameMembers (target_reads shapes g n) (target_reads shapes h n)
SameMembers-reads_told g h known_g known_h none same shapes n = record {
  each = λ k. (
    target_reads_kept g h known_g known_h none same shapes n k,
    target_reads_kept h g known_h known_g none (SameBeside-back same) shapes n k,
  );
}

module _ {changed : List Triple} (g h : Graph) (known_g : AllKnown g) (known_h : AllKnown h)
    (same : SameBeside changed g.triples h.triples) (base : Graph) (known : AllKnown base)
    (one : (x class : ℕ) → IsInstance g.triples x class → IsInstance h.triples x class
    → IsInstance base.triples x class) where
  any_node_kept : (ts : List Target) (x : ℕ) → (Contains (nodes_told base ts changed) x → ⊥)
      → Contains (nodes_of_targets g ts) x → Contains (nodes_of_targets h ts) x
  any_node_kept ts x none c =
      let from = (any_node g known_g ts x).0 c in
      (any_node h known_h ts x).1
      (from.0, from.1, node_kept same base known one ts from.0 x from.1 none from.2)

  -- of the nodes that are told of, those that are target nodes in one graph alone are the difference
  IsDifference-told : (shapes : List PlanShape) (n : ℕ) (told found : List ℕ)
      → Lists nat_cmp (Contains (nodes_told base (targets_of (slice_get shapes n)) changed)) told
      → found ≡ filter (is_only_in g h (targets_of (slice_get shapes n))) told
      → IsDifference nat_eq (target_nodes shapes g n) (target_nodes shapes h n) found
  IsDifference-told shapes n told found tells is =
      let targets = targets_of (slice_get shapes n) in
      let test = is_only_in g h targets in
      let here = λ (x : ℕ). is_node_of_any g targets x in
      let there = λ (x : ℕ). is_node_of_any h targets x in
      subst (IsDifference nat_eq (target_nodes shapes g n) (target_nodes shapes h n)) (sym is) (record {
        once = IsDistinct-filter test nat_eq told (IsDistinct-ascending told tells.sorted);
        each = λ x.
            let first = any_node_test g known_g targets x in
            let second = any_node_test h known_h targets x in (
              λ c.
                  let kept = Contains-from_filter test told x c in
                  let only = only_first (here x) (there x) kept.1 in
                  (first.0 only.0, λ d. only.1 (second.1 d)),
              λ m. elim (among_or_not x (nodes_told base targets changed)) [
                | inl c ↦
                    Contains-filter test told x ((tells.each x).1 c)
                    (first_alone (here x) (there x) (first.1 m.0) (λ e. m.1 (second.0 e)))
                | inr none ↦ absurd (m.1 (any_node_kept targets x none m.0))
              ],
            );
      })

-- in both directions it is enough to be told by the first graph
module _ {changed : List Triple} (g h : Graph) (known_g : AllKnown g) (known_h : AllKnown h)
    (same : SameBeside changed g.triples h.triples) (shapes : List PlanShape) (n : ℕ) (told found : List ℕ)
    (tells : Lists nat_cmp (Contains (nodes_told g (targets_of (slice_get shapes n)) changed)) told) where
  pub IsDifference-leaving : found ≡ filter (is_only_in g h (targets_of (slice_get shapes n))) told
      → IsDifference nat_eq (target_nodes shapes g n) (target_nodes shapes h n) found
  IsDifference-leaving is =
      IsDifference-told g h known_g known_h same g known_g (λ x class was is. was) shapes n told found tells
      is

  pub IsDifference-entering : found ≡ filter (is_only_in h g (targets_of (slice_get shapes n))) told
      → IsDifference nat_eq (target_nodes shapes h n) (target_nodes shapes g n) found
  IsDifference-entering is =
      IsDifference-told h g known_h known_g (SameBeside-back same) g known_g (λ x class was is. is) shapes n
      told found tells is

-- ---- as it is computed

pub match_weaker : {X P Q : Type 0} (R : X → Type 0) (o : Option X) → (P → Q) → MatchOption o P R
    → MatchOption o Q R
match_weaker R None from h = from h
match_weaker R (Some x) from h = h

-- one triple more
pub told_more : (g : Graph) (targets : List Target) (before : List Triple) (t : Triple)
    (first mid new found : List ℕ) → first ≡ nodes_told g targets before
    → mid ≡ first ++ flat_map (λ a. option_to_list (node_told a t)) targets → new ≡ mid ++ found
    → found ≡ instances_told g targets t → new ≡ nodes_told g targets (before ++ t ∷ [])
told_more g targets before t first mid new found was added pushed are =
    let itself = flat_map (λ a. option_to_list (node_told a t)) targets in
    pushed
    ∙ (λ i. added i ++ are i)
    ∙ append_assoc first itself (instances_told g targets t)
    ∙ ap (λ ids. ids ++ told_by g targets t) was
    ∙ sym (flat_map-append (told_by g targets) before (t ∷ [])
    ∙ ap (λ ids. nodes_told g targets before ++ ids) (append-nil (told_by g targets t)))

-- the nodes that are told of the targets of a shape
pub listed_at : (g : Graph) (shapes : List PlanShape) (n : ℕ) (sh : PlanShape) (targets : List Target)
    (changed : List Triple) (told : List ℕ) → slice_get shapes n ≡ Some sh → targets ≡ sh.targets.items
    → Lists nat_cmp (Contains (nodes_told g targets changed)) told
    → Lists nat_cmp (Contains (nodes_told g (targets_of (slice_get shapes n)) changed)) told
listed_at g shapes n sh targets changed told at are lists =
    subst (λ ts. Lists nat_cmp (Contains (nodes_told g ts changed)) told) (are ∙ sym (ap targets_of at)) lists

-- a filter of all that were gone over
pub gone_over : (test : ℕ → Bool) (found items told : List ℕ) (i : ℕ) → found ≡ filter test (take i items)
    → items ≡ told → length items ≤ i → found ≡ filter test told
gone_over test found items told i is are all =
    is ∙ ap (filter test) (take_all i items all ∙ are)
