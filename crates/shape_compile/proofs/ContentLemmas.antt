-- What a constraint says tells its numbers, and which shapes it names.
use Rattle.std.specs.Prelude.{◌≡◌, ℕ, List, [], ◌∷◌, ◌++◌, Option, Contains, map, slice_get}
use Rattle.std.proofs.Common.{refl}
use Rattle.shx_term.proofs.MemberLemmas.{Contains-map, none_in_empty}
use Rattle.shape_eval.specs.Constraint.{members_of, shapes_named}
use Rattle.shape_eval.specs.declared.constraint.Constraint.{Constraint}
use Rattle.shape_eval.specs.declared.constraint.Constraint.TheVariants as any
use Rattle.shape_eval.specs.Content.{Content, Members, Names, Permits, content_of}

-- the members of a list that it says, or what it permits and ignores
abbrev pub members_in : Content → List ℕ
members_in (Members members) = members
members_in (Permits permitted ignored) = permitted ++ ignored
members_in content = []

-- the nodes of the shapes that it names
abbrev pub names_in : Content → List (Option ℕ)
names_in (Names names) = names
names_in content = []

module _ (nodes : List ℕ) where
  -- all but its parameter that has a term
  pub members_said : (c : Constraint) → members_in (content_of nodes c) ≡ members_of c
  members_said (any.LanguageIn c) = refl
  members_said (any.Closed c) = refl
  members_said (any.In c) = refl
  members_said c = refl

  -- a shape is named by its node
  abbrev IsNamed : Constraint → ℕ → Type 0
  IsNamed c j = Contains (names_in (content_of nodes c)) (slice_get nodes j)

  among : (shapes : List ℕ) (j : ℕ) → Contains shapes j
      → Contains (map (slice_get nodes) shapes) (slice_get nodes j)
  among shapes j i = Contains-map (slice_get nodes) shapes j i

  pub shape_said : (c : Constraint) (j : ℕ) → Contains (shapes_named c) j → IsNamed c j
  shape_said (any.Not c) j i = among (c.shape ∷ []) j i
  shape_said (any.And c) j i = among c.shapes.items j i
  shape_said (any.Or c) j i = among c.shapes.items j i
  shape_said (any.Xone c) j i = among c.shapes.items j i
  shape_said (any.Node c) j i = among (c.shape ∷ []) j i
  shape_said (any.Property c) j i = among (c.shape ∷ []) j i
  shape_said (any.QualifiedMinCount c) j i = among (c.shape ∷ c.siblings.items) j i
  shape_said (any.QualifiedMaxCount c) j i = among (c.shape ∷ c.siblings.items) j i
  shape_said c j i = absurd (none_in_empty j i)
