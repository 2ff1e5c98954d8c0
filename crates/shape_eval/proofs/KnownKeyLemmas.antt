-- The numbers in the keys that are read have terms.
use Rattle.std.specs.Prelude.{◌≡◌, ℕ, zero, suc, ◌+◌, ◌<◌, Bool, true, false, List, [], ◌∷◌, ◌++◌, Option}
use Rattle.std.specs.Prelude.{Some, None, map, flat_map, if◌then◌else◌, length, slice_get, All, Contains}
use Rattle.std.proofs.Common.{refl, sym, ap, ◌∙◌, subst, arith}
use Rattle.std.proofs.lemmas.List.{length-append}
use Rattle.std.proofs.lemmas.List.Elements.{All-append, All-cons, All-nil}
use Rattle.std.proofs.lemmas.List.Elements.{Contains-append_left, Contains-append_right}
use Rattle.shx_term.specs.declared.vocabulary.TheConstants.{RDF_TYPE, RDFS_SUB_CLASS_OF}
use Rattle.shx_term.specs.Vocabulary.{HasVocabulary, vocabulary}
use Rattle.shx_term.proofs.MemberLemmas.{All_head, All_of_each, Contains-from_map, Contains-map, each_of_All}
use Rattle.shx_term.proofs.VocabularyLemmas.{length-vocabulary}
use Rattle.shx_term.specs.TermKinds.{is_node}
use Rattle.graph_view.specs.declared.key.Key.{Key}
use Rattle.graph_view.specs.declared.key.Key.TheVariants.{Out, Predicate, Subject}
use Rattle.graph_view.specs.Graph.{Graph, AllKnown, HasTerms}
use Rattle.path_eval.specs.declared.direction.Direction.{Direction}
use Rattle.path_eval.specs.declared.direction.Direction.TheVariants.{Backward, Forward}
use Rattle.path_eval.specs.declared.path.Path.{Path}
use Rattle.path_eval.specs.Instances.{instance_route}
use Rattle.path_eval.specs.Relation.{opposite, step_key}
use Rattle.path_eval.specs.Route.{Route, along, any_times, first_then, here, none, one_or_other, perhaps}
use Rattle.path_eval.specs.Route.{predicates_in, route_of, some_times, turned}
use Rattle.path_eval.specs.Values.{path_reads}
use Rattle.path_eval.specs.Way.{Way, then_by, way}
use Rattle.path_eval.proofs.MeetsLemmas.{path_known}
use Rattle.comp_core.specs.declared.pair.At.{At}
use Rattle.comp_core.specs.declared.pair.Pair.{Pair}
use Rattle.comp_core.specs.Asking.{asked_keys, pair_of, pairs_at}
use Rattle.value_components.specs.Class.{class_reads_at}
use Rattle.shape_eval.specs.declared.constraint.Constraint.{Constraint}
use Rattle.shape_eval.specs.declared.constraint.Constraint.TheVariants as any
use Rattle.shape_eval.specs.declared.shape.PlanShape.{PlanShape}
use Rattle.shape_eval.specs.declared.target.Target.{Target}
use Rattle.shape_eval.specs.declared.target.Target.TheVariants as target
use Rattle.shape_eval.specs.Constraint.{constraint_reads, members_of, numbers_stated, parameter_of}
use Rattle.shape_eval.specs.Laws.{IsKnownKey, PairReadsHaveTerms, TargetReadsHaveTerms}
use Rattle.shape_eval.specs.Plan.{HasTermsOf, IsKnownPlan, path_numbers, target_number}
use Rattle.shape_eval.specs.Results.{at_of, reads_of_each, reads_within, shape_reads, value_nodes}
use Rattle.shape_eval.specs.Results.{value_reads}
use Rattle.shape_eval.specs.Targets.{reads_of_target, targets_of}
use Rattle.shape_eval.proofs.LevelLemmas.{shape_known}
use Rattle.shape_eval.proofs.PartLemmas.{All_in_part, All_of_parts}
use Rattle.shape_eval.proofs.ShapeLemmas.{values_known}

vocabulary_known : (g : Graph) → HasVocabulary g.terms → (n : ℕ) → n < 62 → n < length g.terms
vocabulary_known g has n small =
    let long : length g.terms ≡ length vocabulary + length has.more =
    ap length has.begins ∙ length-append vocabulary has.more in
    omega (arith, long, length-vocabulary, small)

module _ (g : Graph) (known : AllKnown g) where
  abbrev IsKnown : Key → Type 0
  IsKnown key = IsKnownKey g.terms key

  abbrev AreKnown : List Key → Type 0
  AreKnown keys = All IsKnown keys

  none_known : AreKnown []
  none_known = All-nil IsKnown

  one_known : (key : Key) → IsKnown key → AreKnown (key ∷ [])
  one_known key is = All-cons IsKnown key [] is none_known

  unless_off : (off : Bool) (keys : List Key) → AreKnown keys → AreKnown (if off then [] else keys)
  unless_off true keys are = none_known
  unless_off false keys are = are

  -- ---- of a path

  -- what it reads from numbers that have terms
  abbrev ReadKnown : Way → Type 0
  ReadKnown a = (x : ℕ) → x < length g.terms → AreKnown (a.reads x)

  abbrev LeadsKnown : Way → Type 0
  LeadsKnown a = (x y : ℕ) → x < length g.terms → Contains (a.to x) y → y < length g.terms

  then_reads : (a b : Way) → LeadsKnown a → ReadKnown a → ReadKnown b → ReadKnown (then_by a b)
  then_reads a b leads first second x inside =
      All-append IsKnown (a.reads x) (flat_map b.reads (a.to x)) (first x inside)
      (All_of_parts IsKnown b.reads (a.to x) (λ y c. second y (leads x y inside c)))

  step_known : (d : Direction) (p x : ℕ) → p < length g.terms → x < length g.terms
      → IsKnown (step_key d p x)
  step_known Forward p x at_p inside = (inside, at_p)
  step_known Backward p x at_p inside = (at_p, inside)

  -- from its start, and from wherever it leads
  again_known : (d : Direction) (a : Route) → ReadKnown (way g d a) → ReadKnown (way g d (some_times a))
  again_known d a once x inside =
      let to = (way g d (some_times a)).to x in
      let all : HasTerms g (x ∷ to) =
      All-cons (λ id. id < length g.terms) x to inside
      (All_of_each (λ id. id < length g.terms) to
      (λ y c. path_known g known d (some_times a) x y inside c)) in
      All_of_parts IsKnown (way g d a).reads (x ∷ to)
      (λ y c. once y (each_of_All (λ id. id < length g.terms) (x ∷ to) all y c))

  in_turn : (d : Direction) (a b : Route) → ReadKnown (way g d a) → ReadKnown (way g d b)
      → ReadKnown (way g d (first_then a b))
  in_turn Forward a b first second =
      then_reads (way g Forward a) (way g Forward b) (path_known g known Forward a) first second
  in_turn Backward a b first second =
      then_reads (way g Backward b) (way g Backward a) (path_known g known Backward b) second first

  parts_known : (xs ys : List ℕ) → HasTerms g (xs ++ ys) → HasTerms g xs × HasTerms g ys
  parts_known xs ys both = (
    All_of_each (λ id. id < length g.terms) xs (λ id c.
        each_of_All (λ id. id < length g.terms) (xs ++ ys) both id (Contains-append_left xs ys id c)),
    All_of_each (λ id. id < length g.terms) ys (λ id c.
        each_of_All (λ id. id < length g.terms) (xs ++ ys) both id (Contains-append_right xs ys id c)),
  )

  route_known : (d : Direction) (route : Route) → HasTerms g (predicates_in route) → (x : ℕ)
      → x < length g.terms → AreKnown (path_reads g d route x)
  route_known d (along p) ids x inside =
      let at_p = All_head (λ id. id < length g.terms) p [] ids in
      one_known (step_key d p x) (step_known d p x at_p inside)
  route_known d here ids x inside = none_known
  route_known d (first_then a b) ids x inside =
      let both = parts_known (predicates_in a) (predicates_in b) ids in
      in_turn d a b (route_known d a both.0) (route_known d b both.1) x inside
  route_known d none ids x inside = none_known
  route_known d (one_or_other a b) ids x inside =
      let both = parts_known (predicates_in a) (predicates_in b) ids in
      All-append IsKnown (path_reads g d a x) (path_reads g d b x) (route_known d a both.0 x inside)
      (route_known d b both.1 x inside)
  route_known d (turned a) ids x inside = route_known (opposite d) a ids x inside
  route_known d (any_times a) ids x inside = again_known d a (route_known d a ids) x inside
  route_known d (some_times a) ids x inside = again_known d a (route_known d a ids) x inside
  route_known d (perhaps a) ids x inside = route_known d a ids x inside

  reads_of_value : (path : Option Path) → HasTerms g (path_numbers path) → (node : ℕ)
      → node < length g.terms → AreKnown (value_reads g path node)
  reads_of_value None ids node inside = none_known
  reads_of_value (Some path) ids node inside = route_known Forward (route_of path) ids node inside

  module _ (has : HasVocabulary g.terms) where
    instance_known : HasTerms g (predicates_in instance_route)
    instance_known =
        let below = λ (id : ℕ). id < length g.terms in
        All-cons below RDF_TYPE (RDFS_SUB_CLASS_OF ∷ [])
        (vocabulary_known g has RDF_TYPE (omega arith))
        (All-cons below RDFS_SUB_CLASS_OF [] (vocabulary_known g has RDFS_SUB_CLASS_OF (omega arith))
        (All-nil below))

    -- ---- of a constraint, by what is so of the pairs that it asks

    module _ (r : Pair → List Key) (told : (d : Pair) → d.node < length g.terms → AreKnown (r d)) (at : At)
        (focus : at.focus < length g.terms) (vs : List ℕ) (values : HasTerms g vs) where
      value_known : (v : ℕ) → Contains vs v → v < length g.terms
      value_known v c = each_of_All (λ id. id < length g.terms) vs values v c

      unless_literal : (b : Bool) (v : ℕ) → v < length g.terms
          → AreKnown (if b then path_reads g Forward instance_route v else [])
      unless_literal true v inside = route_known Forward instance_route instance_known v inside
      unless_literal false v inside = none_known

      class_known : AreKnown (flat_map (class_reads_at g) vs)
      class_known =
          All_of_parts IsKnown (class_reads_at g) vs
          (λ v c. unless_literal (is_node g.terms v) v (value_known v c))

      asked_known : (shapes : List ℕ) → AreKnown (asked_keys r shapes vs)
      asked_known shapes =
          All_of_parts IsKnown (λ v. flat_map r (pairs_at shapes v)) vs (λ v c.
          All_of_parts IsKnown r (pairs_at shapes v) (λ d i.
          let from = Contains-from_map (pair_of v) shapes d i in
          told d (subst (λ (e : Pair). e.node < length g.terms) (sym from.2) (value_known v c))))

      focus_known : (c : Constraint) → HasTerms g (numbers_stated c)
          → AreKnown (Out at.focus (parameter_of c) ∷ [])
      focus_known c ids =
          one_known (Out at.focus (parameter_of c))
          (focus, All_head (λ id. id < length g.terms) (parameter_of c) (members_of c) ids)

      reads_known : (c : Constraint) → HasTerms g (numbers_stated c)
          → AreKnown (constraint_reads c g r at vs)
      reads_known (any.Class c) ids = class_known
      reads_known (any.Equals c) ids = focus_known (any.Equals c) ids
      reads_known (any.Disjoint c) ids = focus_known (any.Disjoint c) ids
      reads_known (any.LessThan c) ids = focus_known (any.LessThan c) ids
      reads_known (any.LessThanOrEquals c) ids = focus_known (any.LessThanOrEquals c) ids
      reads_known (any.Not c) ids = asked_known (c.shape ∷ [])
      reads_known (any.And c) ids = asked_known c.shapes.items
      reads_known (any.Or c) ids = asked_known c.shapes.items
      reads_known (any.Xone c) ids = asked_known c.shapes.items
      reads_known (any.Node c) ids = asked_known (c.shape ∷ [])
      reads_known (any.Property c) ids = asked_known (c.shape ∷ [])
      reads_known (any.QualifiedMinCount c) ids = asked_known (c.shape ∷ c.siblings.items)
      reads_known (any.QualifiedMaxCount c) ids = asked_known (c.shape ∷ c.siblings.items)
      reads_known (any.Closed c) ids =
          All_of_parts IsKnown (λ v. Subject v ∷ []) vs (λ v i. one_known (Subject v) (value_known v i))
      reads_known c ids = none_known

    -- ---- of a shape, and by levels

    reads_of_shape : (r : Pair → List Key) → ((d : Pair) → d.node < length g.terms → AreKnown (r d))
        → (o : Option PlanShape) (p : Pair) → ((sh : PlanShape) → o ≡ Some sh → HasTermsOf g.terms sh)
        → p.node < length g.terms → AreKnown (shape_reads g r o p)
    reads_of_shape r told None p terms inside = none_known
    reads_of_shape r told (Some sh) p terms inside =
        let is = terms sh refl in
        let cs = sh.constraints.items in
        let vs = value_nodes g sh.path p.node in
        let first = value_reads g sh.path p.node in
        let rest = reads_of_each g r cs (at_of p) vs in
        unless_off sh.deactivated (first ++ rest)
        (All-append IsKnown first rest (reads_of_value sh.path is.path p.node inside)
        (All_of_parts IsKnown (λ c. constraint_reads c g r (at_of p) vs) cs (λ c i.
        reads_known r told (at_of p) inside vs (values_known g known sh.path p.node inside) c
        (All_in_part (λ id. id < length g.terms) numbers_stated cs is.constraints c i))))

    reads_by_level : (shapes : List PlanShape) → IsKnownPlan g.terms shapes → (k : ℕ) (p : Pair)
        → p.node < length g.terms → AreKnown (reads_within k shapes g p)
    reads_by_level shapes plan zero p inside = none_known
    reads_by_level shapes plan (suc k) p inside =
        reads_of_shape (reads_within k shapes g) (reads_by_level shapes plan k) (slice_get shapes p.shape) p
        (shape_known g shapes plan p.shape) inside

    -- ---- of targets

    target_known : (t : Target) → target_number t < length g.terms → AreKnown (reads_of_target g t)
    target_known (target.Node node) inside = none_known
    target_known (target.Class class) inside =
        route_known Backward instance_route instance_known class inside
    target_known (target.SubjectsOf p) inside = one_known (Predicate p) inside
    target_known (target.ObjectsOf p) inside = one_known (Predicate p) inside

    targets_known : (o : Option PlanShape) → ((sh : PlanShape) → o ≡ Some sh → HasTermsOf g.terms sh)
        → AreKnown (flat_map (reads_of_target g) (targets_of o))
    targets_known None terms = none_known
    targets_known (Some sh) terms =
        All_of_parts IsKnown (reads_of_target g) sh.targets.items (λ t c.
        target_known t (each_of_All (λ id. id < length g.terms) (map target_number sh.targets.items)
        (terms sh refl).targets (target_number t) (Contains-map target_number sh.targets.items t c)))

pub pair_reads_known : PairReadsHaveTerms
pair_reads_known shapes g known has plan p inside =
    reads_by_level g known has shapes plan (length shapes) p inside

pub target_reads_known : TargetReadsHaveTerms
target_reads_known shapes g known has plan n =
    targets_known g known has (slice_get shapes n) (shape_known g shapes plan n)
