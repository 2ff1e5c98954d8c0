-- sh:node (SHACL, section 4.7.1).
use Rattle.std.specs.Prelude.{ℕ, List, flat_map}
use Rattle.comp_core.specs.declared.pair.At.{At}
use Rattle.comp_core.specs.declared.pair.Pair.{Pair}
use Rattle.comp_core.specs.declared.row.ResultRow.{ResultRow}
use Rattle.comp_core.specs.declared.kinds.TheConstants.{NODE}
use Rattle.comp_core.specs.Asking.{pair_of}
use Rattle.comp_core.specs.Results.{resting_on}
use Rattle.logic_components.specs.declared.node.Node.{Node}

-- a result for each value node that does not conform to the shape, resting on its results there
abbrev pub node_hits : Node → (Pair → List ResultRow) → At → List ℕ → List ResultRow
node_hits c m at vs = flat_map (λ v. resting_on (m (pair_of v c.shape)) NODE at v) vs
