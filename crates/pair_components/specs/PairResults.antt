-- Results of value nodes beside other nodes.
use Rattle.std.specs.Prelude.{ℕ, Bool, List, flat_map}
use Rattle.comp_core.specs.declared.pair.At.{At}
use Rattle.comp_core.specs.declared.row.ResultRow.{ResultRow}
use Rattle.comp_core.specs.Results.{unless}

-- a result with the node, for each of the others beside which it is not as it should be
abbrev pub each_beside : (ℕ → ℕ → Bool) → ℕ → At → List ℕ → ℕ → List ResultRow
each_beside is_fine kind at others node = flat_map (λ w. unless (is_fine node w) kind at node) others

-- the same for each value node
abbrev pub each_pair_unless : (ℕ → ℕ → Bool) → ℕ → At → List ℕ → List ℕ → List ResultRow
each_pair_unless is_fine kind at others vs = flat_map (each_beside is_fine kind at others) vs
