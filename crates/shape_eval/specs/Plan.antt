-- Plans: shapes by number, each of which names lower numbers alone.
use Rattle.std.specs.Prelude.{◌≡◌, ℕ, ◌<◌, ◌≤◌, ◌^◌, nat_eq, Bool, ◌&&◌, not, List, [], ◌∷◌}
use Rattle.std.specs.Prelude.{Option, Some, None, map, filter, flat_map, length, slice_get, position}
use Rattle.std.specs.Prelude.{All, ◌⊎◌}
use Rattle.std.specs.List.{IsDistinct}
use Rattle.std.specs.List.Sorted.{IsStrictlySortedBy}
use Rattle.std.specs.declared.cmp.Ordering.TheVariants.{Less}
use Rattle.shx_term.specs.declared.term.Term.{Term}
use Rattle.shx_term.specs.IdOrder.{id_cmp, in_term_order}
use Rattle.path_eval.specs.declared.path.Path.{Path}
use Rattle.path_eval.specs.Route.{nesting, predicates_in, route_of}
use Rattle.shape_order.specs.Levels.{HasSteps}
use Rattle.shape_order.specs.Refs.{Refers}
use Rattle.shape_eval.specs.declared.constraint.Constraint.{Constraint}
use Rattle.shape_eval.specs.declared.shape.PlanShape.{PlanShape}
use Rattle.shape_eval.specs.declared.target.Target.{Target}
use Rattle.shape_eval.specs.declared.target.Target.TheVariants as target
use Rattle.shape_eval.specs.Constraint.{IsReadOf, kind_of, numbers_stated, parameter_of, shapes_named}

-- ---- what the shapes of a plan refer to

abbrev pub names_of : Option PlanShape → List ℕ
names_of None = []
names_of (Some sh) = flat_map shapes_named sh.constraints.items

-- the shapes that the constraints of a shape name, siblings included
abbrev pub references : List PlanShape → ℕ → List ℕ
references shapes i = names_of (slice_get shapes i)

-- each shape names lower ones alone
pub record RefersLower (shapes : List PlanShape) : Type 0 where
  pub lower : (i j : ℕ) → Refers (references shapes) i j → j < i

abbrev pub nodes_of : List PlanShape → List ℕ
nodes_of shapes = map (λ sh. sh.node) shapes

-- shapes of distinct nodes, each of which names lower ones alone
pub record IsNumbered (shapes : List PlanShape) : Type 0 where
  pub refers : RefersLower shapes
  pub distinct : IsDistinct nat_eq (nodes_of shapes)

-- ---- the numbers in a plan

abbrev pub target_number : Target → ℕ
target_number (target.Node node) = node
target_number (target.Class class) = class
target_number (target.SubjectsOf p) = p
target_number (target.ObjectsOf p) = p

abbrev pub path_numbers : Option Path → List ℕ
path_numbers None = []
path_numbers (Some path) = predicates_in (route_of path)

-- all that a shape is made of has terms, of which its counts and bounds were read
pub record HasTermsOf (terms : List Term) (sh : PlanShape) : Type 0 where
  pub node : sh.node < length terms
  pub severity : sh.severity < length terms
  pub messages : All (λ id. id < length terms) sh.messages.items
  pub path : All (λ id. id < length terms) (path_numbers sh.path)
  pub targets : All (λ id. id < length terms) (map target_number sh.targets.items)
  pub constraints : All (λ id. id < length terms) (flat_map numbers_stated sh.constraints.items)
  pub read : All (λ c. IsReadOf c terms) sh.constraints.items

-- the numbers of a plan have terms, of which it was read
pub record IsKnownPlan (terms : List Term) (shapes : List PlanShape) : Type 0 where
  pub each : All (HasTermsOf terms) shapes

-- ---- the order of what a shape states

-- by component, and then by the parameter in term order (SHACL leaves this order open)
abbrev pub StandsBefore : List Term → Constraint → Constraint → Type 0
StandsBefore terms c d =
    (kind_of c < kind_of d)
    ⊎ ((kind_of c ≡ kind_of d) × (id_cmp terms (parameter_of c) (parameter_of d) ≡ Less))

pub record AreInOrder (terms : List Term) (cs : List Constraint) : Type 0 where
  pub each : (i j : ℕ) (c d : Constraint) → i < j → slice_get cs i ≡ Some c → slice_get cs j ≡ Some d
      → StandsBefore terms c d

abbrev pub path_nesting : Option Path → ℕ
path_nesting None = 0
path_nesting (Some path) = nesting (route_of path)

-- messages in term order, each once; constraints in order; a path that nests at most 64 deep
pub record IsOrderly (terms : List Term) (sh : PlanShape) : Type 0 where
  pub messages : IsStrictlySortedBy (id_cmp terms) sh.messages.items
  pub constraints : AreInOrder terms sh.constraints.items
  pub path : path_nesting sh.path ≤ 64

-- ---- a plan

-- shapes of distinct nodes, none of which stands more than 64 levels high
pub record IsPlan (terms : List Term) (shapes : List PlanShape) : Type 0 where
  pub few : length shapes < 2 ^ 32
  pub distinct : IsDistinct nat_eq (nodes_of shapes)
  pub refers : RefersLower shapes
  pub shallow : (i : ℕ) → HasSteps (references shapes) 65 i → ⊥
  pub known : IsKnownPlan terms shapes
  pub orderly : All (IsOrderly terms) shapes

-- ---- the shapes from which a validation begins

abbrev pub is_empty_list : {X : Type 0} → List X → Bool
is_empty_list xs = nat_eq (length xs) 0

-- it has a target and is not deactivated
abbrev pub is_targeted : PlanShape → Bool
is_targeted sh = not sh.deactivated && not (is_empty_list sh.targets.items)

abbrev pub number_of : List PlanShape → ℕ → Option ℕ
number_of shapes node = position (nat_eq node) (nodes_of shapes)

abbrev pub if_any : Option ℕ → List ℕ
if_any None = []
if_any (Some n) = n ∷ []

-- the numbers of the shapes of some nodes, in the same order
abbrev pub numbers_of : List PlanShape → List ℕ → List ℕ
numbers_of shapes nodes = flat_map (λ node. if_any (number_of shapes node)) nodes

-- their numbers, by their nodes in term order
abbrev pub targeted : List Term → List PlanShape → List ℕ
targeted terms shapes = numbers_of shapes (in_term_order terms (nodes_of (filter is_targeted shapes)))

-- what is known of a plan: its shapes by number, and the targeted ones in their order
pub record Planned : Type 0 where
  pub shapes : List PlanShape
  pub targeted : List ℕ

abbrev pub planned : List Term → List PlanShape → Planned
planned terms shapes = record { shapes = shapes; targeted = targeted terms shapes }
