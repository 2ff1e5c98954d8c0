-- The target nodes of a shape depend on what is read for them.
use Rattle.std.specs.Prelude.{◌≡◌, ◌<◌, ℕ, List, [], ◌∷◌, ◌++◌, Option, Some, None, map}
use Rattle.std.specs.Prelude.{flat_map, length}
use Rattle.std.specs.Prelude.{get_or, slice_get, All, Contains}
use Rattle.std.proofs.Common.{refl, sym, ap, ◌∙◌, subst}
use Rattle.std.proofs.lemmas.List.Elements.{All-append}
use Rattle.shx_term.specs.Members.{SameMembers}
use Rattle.shx_term.specs.declared.triple.Triple.{Triple}
use Rattle.shx_term.specs.IdOrder.{in_term_order}
use Rattle.shx_term.specs.declared.term.Term.{Term}
use Rattle.shx_term.proofs.IdOrderLemmas.{in_term_order_lists, in_term_order-append}
use Rattle.shx_term.proofs.MemberLemmas.{All_mapped, All_of_each}
use Rattle.shx_term.proofs.MemberLemmas.{Contains-from_flat_map, Contains-from_map, Contains-map}
use Rattle.shx_term.proofs.MemberLemmas.{Contains-one, each_of_All, flat_map_agree, none_in_empty}
use Rattle.shx_term.proofs.SetLemmas.{SameMembers-itself, SameMembers-parts}
use Rattle.graph_view.specs.declared.key.Key.TheVariants.{Predicate}
use Rattle.graph_view.specs.Agree.{Agree}
use Rattle.graph_view.specs.Graph.{Graph, AllKnown, HasTerms, IsKnownTriple, triples_with}
use Rattle.graph_view.proofs.AgreeLemmas.{Agree-fewer, Agree-part}
use Rattle.path_eval.specs.declared.direction.Direction.TheVariants.{Backward}
use Rattle.path_eval.specs.Instances.{instance_route}
use Rattle.shape_eval.specs.declared.shape.PlanShape.{PlanShape}
use Rattle.shape_eval.specs.declared.target.Target.{Target}
use Rattle.shape_eval.specs.declared.target.Target.TheVariants as target
use Rattle.shape_eval.specs.Laws.{TargetsDependOnReads}
use Rattle.shape_eval.specs.Plan.{HasTermsOf, IsKnownPlan, target_number}
use Rattle.shape_eval.specs.Targets.{nodes_of_target, nodes_of_targets, reads_of_target, targets_of}
use Rattle.shape_eval.proofs.LevelLemmas.{shape_known}
use Rattle.shape_eval.proofs.ShapeLemmas.{PathsAgree, reached_known}

-- the law of look-ups by predicate
abbrev pub TriplesAgree : Type 0
TriplesAgree = (g h : Graph) (p : ℕ) → AllKnown g → Agree g h (λ key. key ≡ Predicate p)
    → triples_with g p ≡ triples_with h p

-- what is looked up is held
abbrev pub TriplesHeld : Type 0
TriplesHeld = (g : Graph) (p : ℕ) (t : Triple) → Contains (triples_with g p) t → Contains g.triples t

module _ (held : TriplesHeld) (g : Graph) (known : AllKnown g) where
  mapped_known : (f : Triple → ℕ) → ((t : Triple) → IsKnownTriple g.terms t → f t < length g.terms) → (p : ℕ)
      → HasTerms g (map f (triples_with g p))
  mapped_known f each p =
      All_of_each (λ id. id < length g.terms) (map f (triples_with g p)) (λ id c.
      let at = Contains-from_map f (triples_with g p) id c in
      subst (λ n. n < length g.terms) (sym at.2)
      (each at.0 (each_of_All (IsKnownTriple g.terms) g.triples known at.0 (held g p at.0 at.1))))

  pub target_known : (t : Target) → target_number t < length g.terms → HasTerms g (nodes_of_target g t)
  target_known (target.Node node) inside =
      All_of_each (λ id. id < length g.terms) (node ∷ [])
      (λ id c. subst (λ n. n < length g.terms) (sym ((Contains-one node id).0 c)) inside)
  target_known (target.Class class) inside = reached_known g known Backward instance_route class inside
  target_known (target.SubjectsOf p) inside = mapped_known (λ t. t.s) (λ t k. k.s) p
  target_known (target.ObjectsOf p) inside = mapped_known (λ t. t.o) (λ t k. k.o) p

  abbrev pub AreKnownTargets : List Target → Type 0
  AreKnownTargets ts = All (λ id. id < length g.terms) (map target_number ts)

  pub number_known : (ts : List Target) → AreKnownTargets ts → (t : Target) → Contains ts t
      → target_number t < length g.terms
  number_known ts numbers t c =
      each_of_All (λ id. id < length g.terms) (map target_number ts) numbers (target_number t)
      (Contains-map target_number ts t c)

  -- of all targets together
  pub targets_known : (ts : List Target) → AreKnownTargets ts → (id : ℕ)
      → Contains (flat_map (nodes_of_target g) ts) id → id < length g.terms
  targets_known ts numbers id c =
      let at = Contains-from_flat_map (nodes_of_target g) ts id c in
      each_of_All (λ n. n < length g.terms) (nodes_of_target g at.0)
      (target_known at.0 (number_known ts numbers at.0 at.1)) id at.2

  pub nodes_known : (ts : List Target) → AreKnownTargets ts → HasTerms g (nodes_of_targets g ts)
  nodes_known ts numbers =
      let ids = flat_map (nodes_of_target g) ts in
      All_of_each (λ n. n < length g.terms) (nodes_of_targets g ts)
      (λ id c. targets_known ts numbers id (((in_term_order_lists g.terms ids).each id).0 c))

module _ (paths_agree : PathsAgree) (triples_agree : TriplesAgree) (held : TriplesHeld)
    (g h : Graph) (known : AllKnown g) (known' : AllKnown h) where
  one_predicate : (p : ℕ) → Agree g h (Contains (Predicate p ∷ [])) → triples_with g p ≡ triples_with h p
  one_predicate p agree =
      triples_agree g h p known
      (Agree-fewer (λ key. key ≡ Predicate p) (λ key e. (Contains-one (Predicate p) key).1 e) agree)

  one_alike : (t : Target) → target_number t < length g.terms
      → Agree g h (Contains (reads_of_target g t))
      → (nodes_of_target g t ≡ nodes_of_target h t)
      × SameMembers (reads_of_target g t) (reads_of_target h t)
  one_alike (target.Node node) inside agree = (refl, SameMembers-itself [])
  one_alike (target.Class class) inside agree =
      let same = paths_agree g h known known' Backward instance_route class inside agree in
      (same.nodes, same.reads)
  one_alike (target.SubjectsOf p) inside agree =
      (ap (map (λ t. t.s)) (one_predicate p agree), SameMembers-itself (Predicate p ∷ []))
  one_alike (target.ObjectsOf p) inside agree =
      (ap (map (λ t. t.o)) (one_predicate p agree), SameMembers-itself (Predicate p ∷ []))

  all_alike : (ts : List Target) → All (λ id. id < length g.terms) (map target_number ts)
      → Agree g h (Contains (flat_map (reads_of_target g) ts))
      → (nodes_of_targets g ts ≡ nodes_of_targets h ts)
      × SameMembers (flat_map (reads_of_target g) ts) (flat_map (reads_of_target h) ts)
  all_alike ts numbers agree =
      let one = λ (t : Target) (c : Contains ts t).
      one_alike t (number_known held g known ts numbers t c)
      (Agree-part g h (reads_of_target g) ts t c agree) in
      let ids = flat_map (nodes_of_target g) ts in
      let nodes = flat_map_agree (nodes_of_target g) (nodes_of_target h) ts (λ t c. (one t c).0) in
      let longer = in_term_order-append g.terms agree.more ids (targets_known held g known ts numbers) in (
        longer ∙ ap (λ terms. in_term_order terms ids) (sym agree.terms) ∙ ap (in_term_order h.terms) nodes,
        SameMembers-parts (reads_of_target g) (reads_of_target h) ts (λ t c. (one t c).1),
      )

  targets_alike : (o : Option PlanShape) → ((sh : PlanShape) → o ≡ Some sh → HasTermsOf g.terms sh)
      → Agree g h (Contains (flat_map (reads_of_target g) (targets_of o)))
      → (nodes_of_targets g (targets_of o) ≡ nodes_of_targets h (targets_of o))
      × SameMembers (flat_map (reads_of_target g) (targets_of o))
      (flat_map (reads_of_target h) (targets_of o))
  targets_alike None terms agree = all_alike [] (All_of_each _ [] (λ id c. absurd (none_in_empty id c))) agree
  targets_alike (Some sh) terms agree = all_alike sh.targets.items (terms sh refl).targets agree

pub targets_depend : PathsAgree → TriplesAgree → TriplesHeld → TargetsDependOnReads
targets_depend paths_agree triples_agree held shapes g h known known' plan n agree =
    let same = targets_alike paths_agree triples_agree held g h known known' (slice_get shapes n)
    (shape_known g shapes plan n) agree in
    record { nodes = same.0; reads = same.1 }

-- ---- numbers that have terms

pub known_with : (g : Graph) (old more new : List ℕ) → HasTerms g old → HasTerms g more → new ≡ old ++ more
    → HasTerms g new
known_with g old more new known known_more is =
    subst (HasTerms g) (sym is) (All-append (λ id. id < length g.terms) old more known known_more)

pub known_in_order : (g : Graph) (terms : List Term) → terms ≡ g.terms → (ids sorted : List ℕ)
    → HasTerms g ids → sorted ≡ in_term_order terms ids → HasTerms g sorted
known_in_order g terms same ids sorted known is =
    subst (HasTerms g) (sym is) (All_of_each (λ id. id < length g.terms) (in_term_order terms ids) (λ id c.
    each_of_All (λ n. n < length g.terms) ids known id (((in_term_order_lists terms ids).each id).0 c)))

-- ---- of the shape of a number

module _ (g : Graph) (shapes : List PlanShape) (plan : IsKnownPlan g.terms shapes) (n : ℕ) (sh : PlanShape)
    (e : slice_get shapes n ≡ Some sh) where
  pub target_number_known : (ts : List Target) → ts ≡ sh.targets.items → (i : ℕ) (d : Target) → i < length ts
      → target_number (get_or ts i d) < length g.terms
  target_number_known ts is i d inside =
      All_mapped (λ id. id < length g.terms) target_number ts i d inside
      (subst (λ us. All (λ id. id < length g.terms) (map target_number us)) (sym is)
      (shape_known g shapes plan n sh e).targets)
