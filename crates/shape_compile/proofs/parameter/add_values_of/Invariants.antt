use Rattle.std.specs.Prelude.{◌≡◌, ℕ, List, ◌++◌, map, take}
use Rattle.shape_compile.specs.Constraints.{each_value, said_by}
use Rattle.shape_compile.specs.inner.Parameters.{kind_made}
use Rattle.shape_compile.proofs.parameter.add_values_of.Given as goal

abbrev pub invariant-loop-value : goal.invariant-loop-value
invariant-loop-value l = (nodes : List ℕ) → map (said_by nodes) l.out.items
    ≡ map (said_by nodes) l.fn.out.items
    ++ each_value (kind_made l.parameter) (take l.value-index l.value-items)
