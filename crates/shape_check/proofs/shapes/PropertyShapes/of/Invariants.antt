use Rattle.std.specs.Prelude.{◌≡◌, ℕ, map, take}
use Rattle.std.specs.BTreeSet.{contains}
use Rattle.std.specs.Ordering.{nat_cmp}
use Rattle.shape_decl.specs.Declarations.{told_decl}
use Rattle.shape_check.specs.Faults.{has_path}
use Rattle.shape_check.proofs.shapes.PropertyShapes.of.Given as goal

abbrev pub invariant-loop-decl : goal.invariant-loop-decl
invariant-loop-decl l =
    (n : ℕ) → contains nat_cmp l.nodes n ≡ has_path (map told_decl (take l.decl-index l.decls)) n
