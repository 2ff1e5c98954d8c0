-- Shapes that mean what is declared, in an order, are those of a plan.
use Rattle.std.specs.Prelude.{◌≡◌, ℕ, ◌==◌, ◌<◌, ◌≤◌, ◌^◌, zero, suc, Bool, true, false, List, [], ◌∷◌}
use Rattle.std.specs.Prelude.{if◌then◌else◌, length, map, flat_map, slice_get, slice_index, Option, Some}
use Rattle.std.specs.Prelude.{None, All, Contains, ◌++◌, ◌&&◌}
use Rattle.std.specs.List.{AllPairs}
use Rattle.std.specs.List.Sorted.{IsStrictlySortedBy}
use Rattle.std.specs.Option.{option_map, unwrap_or}
use Rattle.std.proofs.Common.{refl, sym, ap, ◌∙◌, subst, arith, get_or}
use Rattle.std.proofs.lemmas.Bool.{eq-eqb}
use Rattle.std.proofs.lemmas.List.{length-map}
use Rattle.std.proofs.lemmas.List.Elements.{All-append, All-cons, All-map, All-nil}
use Rattle.std.proofs.lemmas.Option.{get_or_from_slice_get, same_Some, slice_get-map, slice_get_within}
use Rattle.shx_term.specs.IdOrder.{id_cmp}
use Rattle.shx_term.specs.declared.limits.Limits.{Limits}
use Rattle.shx_term.specs.declared.term.Term.{Term}
use Rattle.shx_term.specs.declared.vocabulary.TheConstants.{SH_MESSAGE, SH_SEVERITY, SH_TARGET_CLASS}
use Rattle.shx_term.specs.declared.vocabulary.TheConstants.{SH_TARGET_NODE, SH_TARGET_OBJECTS_OF}
use Rattle.shx_term.specs.declared.vocabulary.TheConstants.{SH_TARGET_SUBJECTS_OF, SH_VIOLATION}
use Rattle.shx_term.specs.TermKinds.{is_iri}
use Rattle.shx_term.proofs.MemberLemmas.{All_head, All_of_each, Contains-filter, Contains-flat_map}
use Rattle.shx_term.proofs.MemberLemmas.{Contains-from_flat_map, Contains-from_map, Contains-map}
use Rattle.shx_term.proofs.MemberLemmas.{each_of_All, none_in_empty}
use Rattle.path_eval.specs.declared.path.Path.{Path}
use Rattle.path_eval.specs.Route.{route_of}
use Rattle.shape_decl.specs.Declarations.{Declaration, least, values_under}
use Rattle.shape_decl.specs.PathReadings.{Read}
use Rattle.shape_order.specs.Levels.{HasSteps}
use Rattle.shape_order.specs.Refs.{Refers}
use Rattle.shape_refs.specs.Order.{IsShapeOrder}
use Rattle.shape_refs.specs.Outcome.{AreInReach}
use Rattle.shape_refs.specs.References.{declared_at, references_of, refers_to}
use Rattle.shape_eval.specs.Constraint.{members_of, numbers_stated, parameter_of, shapes_named}
use Rattle.shape_eval.specs.Plan.{HasTermsOf, IsOrderly, IsPlan, RefersLower, StandsBefore}
use Rattle.shape_eval.specs.Plan.{Planned, planned}
use Rattle.shape_eval.specs.Plan.{names_of, nodes_of, path_nesting, path_numbers, references, target_number}
use Rattle.shape_eval.specs.declared.constraint.Constraint.{Constraint}
use Rattle.shape_eval.specs.declared.shape.PlanShape.{PlanShape}
use Rattle.shape_eval.specs.declared.target.Target.{Target}
use Rattle.shape_eval.specs.declared.target.Target.TheVariants as target
use Rattle.shape_compile.specs.Answers.{IsPlanOf}
use Rattle.shape_compile.specs.Constraints.{said_by}
use Rattle.shape_compile.specs.Meaning.{PlanMeans, ShapeMeans, own_class, targets_stated}
use Rattle.shape_compile.specs.Patterns.{AreRead}
use Rattle.shape_compile.specs.inner.Ready.{AreKnown, AreReady, IsReady}
use Rattle.shape_compile.proofs.ContentLemmas.{members_said, shape_said}
use Rattle.shape_compile.proofs.OrderedLemmas.{AllPairs-from_map, Precedes}
use Rattle.shape_compile.proofs.PlaceLemmas.{Contains-place, place_before}
use Rattle.shape_compile.proofs.StatedLemmas.{IsSound, all_said}

-- fewer steps lead on where more do
fewer_steps : (to : ℕ → List ℕ) (k m i : ℕ) → k ≤ m → HasSteps to m i → HasSteps to k i
fewer_steps to zero m i h steps = tt
fewer_steps to (suc k) zero i h steps = absurd (omega (arith, h))
fewer_steps to (suc k) (suc m) i h steps =
    (steps.0, steps.1, fewer_steps to k m steps.0 (omega (arith, h)) steps.2)

-- ---- one shape

module _ (limits : Limits) (terms : List Term) (ds : List Declaration) (nodes : List ℕ) (d : Declaration)
    (all_ready : (e : Declaration) → Contains ds e → IsReady limits terms e) (is_declared : Contains ds d)
    (sh : PlanShape) (node : sh.node ≡ d.node) (means : ShapeMeans terms ds nodes d sh) where
  ready : IsReady limits terms d
  ready = all_ready d is_declared

  abbrev cs : List Constraint
  cs = sh.constraints.items

  said_here : (c : Constraint) → Contains cs c
      → IsSound terms (references_of terms ds d) (said_by nodes c)
  said_here c i =
      (all_said limits terms ds d all_ready is_declared).each (said_by nodes c)
      (subst (λ ss. Contains ss (said_by nodes c)) means.constraints (Contains-map (said_by nodes) cs c i))

  -- ---- its numbers

  least_known : (values : List ℕ) (otherwise : ℕ) → AreKnown terms values → otherwise < length terms
      → unwrap_or (least values) otherwise < length terms
  least_known [] otherwise known there = there
  least_known (v ∷ values) otherwise known there = All_head (λ id. id < length terms) v values known

  own_known : (b : Bool) → AreKnown terms (if b then d.node ∷ [] else [])
  own_known true = All-cons (λ id. id < length terms) d.node [] ready.node (All-nil (λ id. id < length terms))
  own_known false = All-nil (λ id. id < length terms)

  abbrev IsKnownTarget : Target → Type 0
  IsKnownTarget t = target_number t < length terms

  targets_known : All IsKnownTarget (targets_stated terms d)
  targets_known =
      let node = values_under d SH_TARGET_NODE in
      let class = values_under d SH_TARGET_CLASS in
      let subjects = values_under d SH_TARGET_SUBJECTS_OF in
      let objects = values_under d SH_TARGET_OBJECTS_OF in
      let own = own_class terms d in
      All-append IsKnownTarget (map target.Node node) _
      (All-map IsKnownTarget target.Node node (ready.values SH_TARGET_NODE (omega arith)).known)
      (All-append IsKnownTarget (map target.Class (class ++ own)) _
      (All-map IsKnownTarget target.Class (class ++ own) (All-append (λ id. id < length terms) class own
      (ready.values SH_TARGET_CLASS (omega arith)).known
      (own_known (d.is_class && is_iri (slice_get terms d.node)))))
      (All-append IsKnownTarget (map target.SubjectsOf subjects) (map target.ObjectsOf objects)
      (All-map IsKnownTarget target.SubjectsOf subjects
      (ready.values SH_TARGET_SUBJECTS_OF (omega arith)).known)
      (All-map IsKnownTarget target.ObjectsOf objects
      (ready.values SH_TARGET_OBJECTS_OF (omega arith)).known)))

  numbers_known : AreKnown terms (flat_map numbers_stated cs)
  numbers_known =
      All_of_each (λ id. id < length terms) (flat_map numbers_stated cs) (λ id i.
      let at = Contains-from_flat_map numbers_stated cs id i in
      let c = at.0 in
      let sound = said_here c at.1 in
      each_of_All (λ n. n < length terms) (numbers_stated c)
      (All-cons (λ n. n < length terms) (parameter_of c) (members_of c) sound.parameter
      (subst (AreKnown terms) (members_said nodes c) sound.members)) id at.2)

  path_within : (path : Option Path) → option_map (λ p. Read (route_of p)) path ≡ d.path
      → AreKnown terms (path_numbers path) × (path_nesting path ≤ limits.path_depth)
  path_within None e = (All-nil (λ id. id < length terms), omega arith)
  path_within (Some path) e =
      let within = ready.path (route_of path) (sym e) in
      (within.known, within.shallow)

  pub terms_of : SH_VIOLATION < length terms → HasTermsOf terms sh
  terms_of violation = record {
    node = subst (λ n. n < length terms) (sym node) ready.node;
    severity = subst (λ n. n < length terms) (sym means.severity)
        (least_known (values_under d SH_SEVERITY) SH_VIOLATION (ready.values SH_SEVERITY (omega arith)).known
        violation);
    messages = subst (AreKnown terms) (sym means.messages) (ready.values SH_MESSAGE (omega arith)).known;
    path = (path_within sh.path means.path).0;
    targets = subst (λ ts. AreKnown terms (map target_number ts)) (sym means.targets)
        (All-map (λ id. id < length terms) target_number (targets_stated terms d) targets_known);
    constraints = numbers_known;
    read = means.read;
  }

  -- ---- its order

  in_turn : AllPairs (StandsBefore terms) cs
  in_turn =
      AllPairs-from_map (Precedes terms) (said_by nodes) cs
      (subst (AllPairs (Precedes terms)) (sym means.constraints)
      (all_said limits terms ds d all_ready is_declared).turn)

  pub orderly : limits.path_depth ≤ 64 → IsOrderly terms sh
  orderly depth = record {
    messages = subst (IsStrictlySortedBy (id_cmp terms)) (sym means.messages)
        (ready.values SH_MESSAGE (omega arith)).sorted;
    constraints = record {
      each = λ i j c e before here there.
          subst (λ x. StandsBefore terms x e) (get_or_from_slice_get cs i c c here)
          (subst (λ y. StandsBefore terms (get_or cs i c) y) (get_or_from_slice_get cs j e c there)
          (in_turn i j c before (slice_get_within cs j e there)));
    };
    path = let within = (path_within sh.path means.path).1 in omega (arith, within, depth);
  }

-- ---- all shapes

module _ (limits : Limits) (terms : List Term) (ds : List Declaration) (ready : AreReady limits terms ds)
    (shapes : List PlanShape) (order : IsShapeOrder terms ds (nodes_of shapes))
    (means : (d : Declaration) (sh : PlanShape) → Contains ds d → Contains shapes sh → sh.node ≡ d.node
    → ShapeMeans terms ds (nodes_of shapes) d sh) where
  abbrev numbered : List ℕ
  numbered = nodes_of shapes

  declared : (sh : PlanShape) → Contains shapes sh → (d : Declaration) × Contains ds d × (sh.node ≡ d.node)
  declared sh c =
      Contains-from_map (λ (d : Declaration). d.node) ds sh.node
      ((order.declared.each sh.node).0 (Contains-map (λ (s : PlanShape). s.node) shapes sh c))

  -- ---- references

  -- a shape, and the node of a shape that it names, to which its own refers
  record Names (i j : ℕ) : Type 0 where
    shape : PlanShape
    at : slice_get shapes i ≡ Some shape
    named : ℕ
    there : slice_get numbered j ≡ Some named
    refers : Refers (refers_to terms ds) shape.node named

  names : (i j : ℕ) → Refers (references shapes) i j → Names i j
  names i j c = of (slice_get shapes i) refl c
    where
      of : (o : Option PlanShape) → slice_get shapes i ≡ o → Contains (names_of o) j → Names i j
      of None e c = absurd (none_in_empty j c)
      of (Some sh) e c =
          let here = Contains-place shapes i sh e in
          let from = declared sh here in
          let d = from.0 in
          let at = Contains-from_flat_map shapes_named sh.constraints.items j c in
          let sound =
          said_here limits terms ds numbered d ready.each from.1 sh from.2 (means d sh from.1 here from.2)
          at.0 at.1 in
          let found = sound.names (slice_get numbered j) (shape_said numbered at.0 j at.2) in
          record {
            shape = sh;
            at = e;
            named = found.0;
            there = found.1;
            refers = Contains-flat_map (references_of terms ds) (declared_at ds sh.node) d found.0
                (Contains-filter (λ (e : Declaration). e.node == sh.node) ds d from.1
                (eq-eqb d.node sh.node (sym from.2))) found.2;
          }

  node_at : (i : ℕ) (sh : PlanShape) → slice_get shapes i ≡ Some sh → slice_get numbered i ≡ Some sh.node
  node_at i sh e =
      slice_get-map (λ (s : PlanShape). s.node) shapes i ∙ ap (option_map (λ (s : PlanShape). s.node)) e

  refers_lower : RefersLower shapes
  refers_lower = record {
    lower = λ i j r.
        let found = names i j r in
        let here = node_at i found.shape found.at in
        let inside : i < length numbered = slice_get_within numbered i found.shape.node here in
        let node : slice_index numbered i ≡ found.shape.node =
        get_or_from_slice_get numbered i found.shape.node 0 here in
        place_before numbered order.once i j found.named (omega arith)
        (order.behind.behind i inside found.named
        (subst (λ n. Refers (refers_to terms ds) n found.named) (sym node) found.refers)) found.there;
  }

  steps_on : (k i n : ℕ) → slice_get numbered i ≡ Some n → HasSteps (references shapes) k i
      → HasSteps (refers_to terms ds) k n
  steps_on zero i n e steps = tt
  steps_on (suc k) i n e steps =
      let found = names i steps.0 steps.1 in
      let here = node_at i found.shape found.at in
      let same : n ≡ found.shape.node = same_Some n found.shape.node (sym e ∙ here) in (
        found.named,
        subst (λ m. Refers (refers_to terms ds) m found.named) (sym same) found.refers,
        steps_on k steps.0 found.named found.there steps.2,
      )

  steps_few : AreInReach limits.reference_depth terms ds → (k i : ℕ) → limits.reference_depth ≤ k
      → HasSteps (references shapes) (suc k) i → ⊥
  steps_few reach k i most steps =
      let found = names i steps.0 steps.1 in
      let node = found.shape.node in
      reach.shallow node
      (fewer_steps (refers_to terms ds) (suc limits.reference_depth) (suc k) node (omega (arith, most))
      (steps_on (suc k) i node (node_at i found.shape found.at) steps))

  -- ---- the plan

  plan_fits : length numbered < 2 ^ 32 → AreInReach limits.reference_depth terms ds → limits.path_depth ≤ 64
      → limits.reference_depth ≤ 64 → IsPlan terms shapes
  plan_fits few reach path_depth reference_depth =
      record {
        few = subst (λ n. n < 2 ^ 32) (length-map shapes (λ (s : PlanShape). s.node)) few;
        distinct = order.once;
        refers = refers_lower;
        shallow = λ i. steps_few reach 64 i reference_depth;
        known = record {
          each = All_of_each (HasTermsOf terms) shapes (λ sh c.
              let d = (declared sh c).0 in
              let in_ds = (declared sh c).1 in
              let same = (declared sh c).2 in
              terms_of limits terms ds numbered d ready.each in_ds sh same (means d sh in_ds c same)
              ready.violation);
        };
        orderly = All_of_each (IsOrderly terms) shapes (λ sh c.
            let d = (declared sh c).0 in
            let in_ds = (declared sh c).1 in
            let same = (declared sh c).2 in
            orderly limits terms ds numbered d ready.each in_ds sh same (means d sh in_ds c same)
            path_depth);
      }

-- the shapes of a plan that was made, whose terms and declarations are these
pub record IsMade (limits : Limits) (terms : List Term) (ds : List Declaration) (shapes : List PlanShape)
    : Type 0 where
  pub fits : IsPlan terms shapes
  pub means : PlanMeans terms ds shapes
  pub reach : AreInReach limits.reference_depth terms ds

pub IsMade-planned : (limits : Limits) (terms : List Term) (ds : List Declaration) (shapes : List PlanShape)
    (nodes : List ℕ) → AreReady limits terms ds → limits.path_depth ≤ 64 → limits.reference_depth ≤ 64
    → nodes_of shapes ≡ nodes → length nodes < 2 ^ 32 → IsShapeOrder terms ds nodes
    → AreInReach limits.reference_depth terms ds
    → ((d : Declaration) (sh : PlanShape) → Contains ds d → Contains shapes sh → sh.node ≡ d.node
    → ShapeMeans terms ds nodes d sh) → IsMade limits terms ds shapes
IsMade-planned limits terms ds shapes nodes ready path_depth reference_depth made few order reach means =
    let here = subst (IsShapeOrder terms ds) (sym made) order in
    let each = λ (d : Declaration) (sh : PlanShape) (c : Contains ds d) (i : Contains shapes sh)
    (same : sh.node ≡ d.node). subst (λ ns. ShapeMeans terms ds ns d sh) (sym made) (means d sh c i same) in
    record {
      fits = plan_fits limits terms ds ready shapes here each
          (subst (λ ns. length ns < 2 ^ 32) (sym made) few) reach path_depth reference_depth;
      means = record { declared = here.declared; once = here.once; each = each };
      reach = reach;
    }

pub IsPlanOf-made : (limits : Limits) (terms : List Term) (ds : List Declaration) (shapes : List PlanShape)
    (plan : Planned) → IsMade limits terms ds shapes → AreRead terms ds → plan ≡ planned terms shapes
    → IsPlanOf limits terms ds plan
IsPlanOf-made limits terms ds shapes plan made read is =
    subst (IsPlanOf limits terms ds) (sym is)
    (record { reach = made.reach; patterns = read; means = made.means; targeted = refl })
