-- Two plans that mean the same declarations have the same shapes, each once, under whatever numbers.
use Rattle.std.specs.Prelude.{◌≡◌, ◌==◌, ℕ, nat_eq, List, [], ◌∷◌, Option, Some, None, map, Contains}
use Rattle.std.specs.Prelude.{if◌then◌else◌}
use Rattle.std.specs.List.{IsDistinct}
use Rattle.std.specs.Option.{option_map}
use Rattle.std.proofs.Common.{refl, sym, ap, ap₂, ◌∙◌}
use Rattle.shx_term.specs.declared.term.Term.{Term}
use Rattle.shx_term.specs.Members.{SameMembers}
use Rattle.shx_term.proofs.MemberLemmas.{Contains-from_map, Contains-map}
use Rattle.shx_term.proofs.SetLemmas.{SameMembers-sym, SameMembers-then}
use Rattle.path_eval.specs.declared.path.Path.{Path}
use Rattle.path_eval.specs.Route.{Route, route_of}
use Rattle.comp_core.specs.declared.kinds.TheConstants.{LANGUAGE_IN, AND, OR, XONE, IN}
use Rattle.shape_decl.specs.Declarations.{Declaration}
use Rattle.shape_decl.specs.PathReadings.{RouteReading, Read}
use Rattle.shape_eval.specs.declared.constraint.Constraint.{Constraint}
use Rattle.shape_eval.specs.declared.constraint.Constraint.TheVariants as any
use Rattle.shape_eval.specs.declared.shape.PlanShape.{PlanShape}
use Rattle.shape_eval.specs.Content.{Demand, demand_of}
use Rattle.shape_eval.specs.Plan.{nodes_of}
use Rattle.plan_swap.specs.Alike.{IsSameShape}
use Rattle.shape_compile.specs.Constraints.{Saying, said_by}
use Rattle.shape_compile.specs.Meaning.{PlanMeans, ShapeMeans}

-- ---- constraints

-- the parameter that is told of a component: none where it expects a list
abbrev told_by : ℕ → ℕ → Option ℕ
told_by kind parameter =
    if kind == LANGUAGE_IN then None
    else if kind == AND then None
    else if kind == OR then None
    else if kind == XONE then None
    else if kind == IN then None
    else Some parameter

-- what is demanded, by what is said
abbrev demanded : Saying → Demand
demanded s = record { kind = s.kind; parameter = told_by s.kind s.parameter; content = s.content }

module _ (nodes : List ℕ) where
  demand_said : (c : Constraint) → demand_of nodes c ≡ demanded (said_by nodes c)
  demand_said (any.Class c) = refl
  demand_said (any.Datatype c) = refl
  demand_said (any.NodeKind c) = refl
  demand_said (any.MinCount c) = refl
  demand_said (any.MaxCount c) = refl
  demand_said (any.MinExclusive c) = refl
  demand_said (any.MinInclusive c) = refl
  demand_said (any.MaxExclusive c) = refl
  demand_said (any.MaxInclusive c) = refl
  demand_said (any.MinLength c) = refl
  demand_said (any.MaxLength c) = refl
  demand_said (any.Pattern c) = refl
  demand_said (any.LanguageIn c) = refl
  demand_said (any.UniqueLang c) = refl
  demand_said (any.Equals c) = refl
  demand_said (any.Disjoint c) = refl
  demand_said (any.LessThan c) = refl
  demand_said (any.LessThanOrEquals c) = refl
  demand_said (any.Not c) = refl
  demand_said (any.And c) = refl
  demand_said (any.Or c) = refl
  demand_said (any.Xone c) = refl
  demand_said (any.Node c) = refl
  demand_said (any.Property c) = refl
  demand_said (any.QualifiedMinCount c) = refl
  demand_said (any.QualifiedMaxCount c) = refl
  demand_said (any.Closed c) = refl
  demand_said (any.HasValue c) = refl
  demand_said (any.In c) = refl

  demands_said : (cs : List Constraint) → map (demand_of nodes) cs ≡ map demanded (map (said_by nodes) cs)
  demands_said [] = refl
  demands_said (c ∷ cs) = ap₂ ◌∷◌ (demand_said c) (demands_said cs)

-- ---- paths

abbrev route_in : Option RouteReading → Option Route
route_in None = None
route_in (Some (Read route)) = Some route
route_in (Some reading) = None

route_read : (path : Option Path)
    → option_map route_of path ≡ route_in (option_map (λ p. Read (route_of p)) path)
route_read None = refl
route_read (Some path) = refl

-- ---- shapes

-- the same shape, with the same targets
pub record IsSameTargeted (old new : List ℕ) (before after : PlanShape) : Type 0 where
  pub shape : IsSameShape old new before after
  pub targets : before.targets.items ≡ after.targets.items

-- shapes of one declaration
same_meaning : (terms : List Term) (ds : List Declaration) (old new : List ℕ) (d : Declaration)
    (before after : PlanShape) → before.node ≡ after.node → ShapeMeans terms ds old d before
    → ShapeMeans terms ds new d after → IsSameTargeted old new before after
same_meaning terms ds old new d before after node first second = record {
  shape = record {
    node = node;
    path = route_read before.path ∙ ap route_in (first.path ∙ sym second.path)
        ∙ sym (route_read after.path);
    severity = first.severity ∙ sym second.severity;
    messages = first.messages ∙ sym second.messages;
    deactivated = first.deactivated ∙ sym second.deactivated;
    demands = demands_said old before.constraints.items
        ∙ ap (map demanded) (first.constraints ∙ sym second.constraints)
        ∙ sym (demands_said new after.constraints.items);
  };
  targets = first.targets ∙ sym second.targets;
}

-- two plans have the same shapes, each once
pub record HaveSameShapes (old new : List PlanShape) : Type 0 where
  pub nodes : SameMembers (nodes_of old) (nodes_of new)
  pub old_once : IsDistinct nat_eq (nodes_of old)
  pub new_once : IsDistinct nat_eq (nodes_of new)
  pub each : (before after : PlanShape) → Contains old before → Contains new after
      → before.node ≡ after.node → IsSameTargeted (nodes_of old) (nodes_of new) before after

pub HaveSameShapes-sym : (old new : List PlanShape) → HaveSameShapes old new → HaveSameShapes new old
HaveSameShapes-sym old new same = record {
  nodes = SameMembers-sym same.nodes;
  old_once = same.new_once;
  new_once = same.old_once;
  each = λ before after held there node.
      let one = same.each after before there held (sym node) in
      record {
        shape = record {
          node = sym one.shape.node;
          path = sym one.shape.path;
          severity = sym one.shape.severity;
          messages = sym one.shape.messages;
          deactivated = sym one.shape.deactivated;
          demands = sym one.shape.demands;
        };
        targets = sym one.targets;
      };
}

pub same_shapes : (terms : List Term) (ds : List Declaration) (old new : List PlanShape)
    → PlanMeans terms ds old → PlanMeans terms ds new → HaveSameShapes old new
same_shapes terms ds old new first second = record {
  nodes = SameMembers-then first.declared (SameMembers-sym second.declared);
  old_once = first.once;
  new_once = second.once;
  each = λ before after held there node.
      let named = Contains-map (λ (sh : PlanShape). sh.node) old before held in
      let of = Contains-from_map (λ (d : Declaration). d.node) ds before.node
      ((first.declared.each before.node).0 named) in
      same_meaning terms ds (nodes_of old) (nodes_of new) of.0 before after node
      (first.each of.0 before of.1 held of.2) (second.each of.0 after of.1 there (sym node ∙ of.2));
}
