-- What is near a shape: the qualified value shapes of its parents' property shapes, gathered by place.
use Rattle.std.specs.Prelude.{◌≡◌, ℕ, Bool, true, List, Vec, [], Option, Some, None, flat_map, length}
use Rattle.std.specs.Prelude.{slice_get, if◌then◌else◌}
use Rattle.std.specs.declared.alloc.Global.{Global}
use Rattle.shx_term.specs.Members.{Adds, SameMembers}
use Rattle.shx_term.specs.declared.term.Term.{Term}
use Rattle.shape_decl.specs.Declarations.{Declaration}
use Rattle.shape_refs.specs.References.{has_siblings, parents_of, qualified_within}

abbrev pub row_in : Option (Vec ℕ Global) → List ℕ
row_in None = []
row_in (Some row) = row.items

abbrev pub row_at : List (Vec ℕ Global) → ℕ → List ℕ
row_at rows i = row_in (slice_get rows i)

-- the row of each shape that has siblings has what is near it by these parents, however often
pub record AreNear (terms : List Term) (ds parents : List Declaration) (rows : List (Vec ℕ Global)) : Type 0
  where
    pub long : length rows ≡ length ds
    pub each : (i : ℕ) (d : Declaration) → slice_get ds i ≡ Some d → has_siblings terms d ≡ true
        → SameMembers (row_at rows i) (flat_map (qualified_within ds) (parents_of parents d.node))

-- the row of each shape that has siblings, and whose node passes a test, has more
pub record AddsNear (terms : List Term) (ds : List Declaration) (test : ℕ → Bool) (near : List ℕ)
    (old new : List (Vec ℕ Global)) : Type 0 where
  pub long : length new ≡ length old
  pub each : (i : ℕ) (d : Declaration) → slice_get ds i ≡ Some d → has_siblings terms d ≡ true
      → Adds (row_at old i) (row_at new i) (if test d.node then near else [])
