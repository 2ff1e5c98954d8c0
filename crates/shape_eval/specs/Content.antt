-- What a constraint says beside its component and its parameter, and what of all that plays a part in its
-- results.
use Rattle.std.specs.Prelude.{ℕ, List, [], ◌∷◌, Option, Some, None, map, slice_get}
use Rattle.shx_outside.specs.declared.flags.Flags.{Flags}
use Rattle.shape_eval.specs.declared.constraint.Constraint.{Constraint}
use Rattle.shape_eval.specs.declared.constraint.Constraint.TheVariants as any
use Rattle.shape_eval.specs.Constraint.{kind_of, parameter_of}

-- beside its component and its parameter
pub data Content : Type 0 where
  Nothing : Content
  -- the text of a pattern, and its flags
  Matches : List ℕ → Flags → Content
  -- the members of a list
  Members : List ℕ → Content
  -- the nodes of the shapes that it names
  Names : List (Option ℕ) → Content
  -- the predicates that are permitted, and those that are ignored
  Permits : List ℕ → List ℕ → Content

-- of a constraint of a plan, where its shapes are of these nodes
abbrev pub content_of : List ℕ → Constraint → Content
content_of nodes (any.Pattern c) = Matches c.built.text c.built.flags
content_of nodes (any.LanguageIn c) = Members c.members
content_of nodes (any.Not c) = Names (slice_get nodes c.shape ∷ [])
content_of nodes (any.And c) = Names (map (slice_get nodes) c.shapes.items)
content_of nodes (any.Or c) = Names (map (slice_get nodes) c.shapes.items)
content_of nodes (any.Xone c) = Names (map (slice_get nodes) c.shapes.items)
content_of nodes (any.Node c) = Names (slice_get nodes c.shape ∷ [])
content_of nodes (any.Property c) = Names (slice_get nodes c.shape ∷ [])
content_of nodes (any.QualifiedMinCount c) =
    Names (slice_get nodes c.shape ∷ map (slice_get nodes) c.siblings.items)
content_of nodes (any.QualifiedMaxCount c) =
    Names (slice_get nodes c.shape ∷ map (slice_get nodes) c.siblings.items)
content_of nodes (any.Closed c) = Permits c.permitted c.ignored
content_of nodes (any.In c) = Members c.members
content_of nodes c = Nothing

-- its parameter; but of a list the members count, and not the node at which it begins
abbrev pub parameter_told : Constraint → Option ℕ
parameter_told (any.LanguageIn c) = None
parameter_told (any.And c) = None
parameter_told (any.Or c) = None
parameter_told (any.Xone c) = None
parameter_told (any.In c) = None
parameter_told c = Some (parameter_of c)

-- what a constraint demands: its component, its parameter, and what it says beside them
pub record Demand : Type 0 where
  pub kind : ℕ
  pub parameter : Option ℕ
  pub content : Content

abbrev pub demand_of : List ℕ → Constraint → Demand
demand_of nodes c = record {
  kind = kind_of c;
  parameter = parameter_told c;
  content = content_of nodes c;
}
