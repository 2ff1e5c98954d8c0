use Rattle.std.specs.Prelude.{◌≡◌, ℕ, List, ◌++◌, flat_map, map, take}
use Rattle.shape_decl.specs.Declarations.{told_decl}
use Rattle.shape_compile.specs.Constraints.{said_by}
use Rattle.shape_compile.specs.inner.Parameters.{stated_by}
use Rattle.shape_compile.proofs.parameter.add_values.Given as goal

abbrev pub invariant-loop-parameter : goal.invariant-loop-parameter
invariant-loop-parameter l = (nodes : List ℕ) → map (said_by nodes) l.out.items
    ≡ map (said_by nodes) l.fn.out.items
    ++ flat_map (stated_by (told_decl l.decl)) (take l.parameter-index l.parameters)
