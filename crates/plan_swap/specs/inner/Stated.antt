-- What a constraint says, as the code has it; and what is known of the shapes that it names.
use Rattle.std.specs.Prelude.{◌≡◌, ℕ, Bool, true, false, List, [], ◌++◌, Option, Some, None, map}
use Rattle.std.specs.Prelude.{flat_map, length, slice_get}
use Rattle.std.specs.List.{list_all}
use Rattle.shape_eval.specs.declared.constraint.Constraint.{Constraint}
use Rattle.shape_eval.specs.declared.shape.PlanShape.{PlanShape}
use Rattle.shape_eval.specs.Constraint.{shapes_named}
use Rattle.shape_eval.specs.Content.{Content}
use Rattle.shape_eval.specs.Content as content
use Rattle.plan_swap.specs.declared.stated.Stated.{Stated}
use Rattle.plan_swap.specs.declared.stated.Stated.TheVariants.{Nothing, Matches, Members, Names, Permits}
use Rattle.plan_swap.specs.Alike.{AreAlike}

abbrev pub stated_content : List ℕ → Stated → Content
stated_content nodes Nothing = content.Nothing
stated_content nodes (Matches text flags) = content.Matches text.now flags
stated_content nodes (Members members) = content.Members members.now
stated_content nodes (Names first others) =
    content.Names (map (slice_get nodes) (first.now ++ others.now))
stated_content nodes (Permits permitted ignored) = content.Permits permitted.now ignored.now

-- the shapes that are named in it
abbrev pub named_in : Stated → List ℕ
named_in (Names first others) = first.now ++ others.now
named_in stated = []

-- for each of the lower new shapes it is known which old one is alike
pub record AreFoundBelow (old new : List PlanShape) (n : ℕ) (found : List (Option ℕ)) : Type 0 where
  pub each : length found ≡ n
  pub alike : (i j : ℕ) → slice_get found j ≡ Some (Some i) → AreAlike old new i j
  pub none : (i j : ℕ) → slice_get found j ≡ Some None → AreAlike old new i j → ⊥

abbrev is_so : Option (Option ℕ) → Bool
is_so None = false
is_so (Some None) = false
is_so (Some (Some m)) = true

-- an old shape is alike with it
abbrev pub is_found : List (Option ℕ) → ℕ → Bool
is_found found n = is_so (slice_get found n)

abbrev pub are_known : List Constraint → List (Option ℕ) → Bool
are_known constraints found = list_all (is_found found) (flat_map shapes_named constraints)
