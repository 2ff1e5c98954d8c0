-- sh:equals (SHACL, section 4.5.1).
use Rattle.std.specs.Prelude.{ℕ, List, ◌++◌}
use Rattle.graph_view.specs.Graph.{Graph, objects_of}
use Rattle.comp_core.specs.declared.pair.At.{At}
use Rattle.comp_core.specs.declared.row.ResultRow.{ResultRow}
use Rattle.comp_core.specs.declared.kinds.TheConstants.{EQUALS}
use Rattle.comp_core.specs.Results.{each_unless}
use Rattle.comp_core.specs.TermTests.{is_among}
use Rattle.pair_components.specs.declared.equals.Equals.{Equals}

-- a result for each node that is not among the others
abbrev pub each_missing : At → List ℕ → List ℕ → List ResultRow
each_missing at others nodes = each_unless (λ v. is_among v others) EQUALS at nodes

-- a result for each value node that is no object of the predicate, and then for each object that is no value
-- node
abbrev pub equals_hits : Equals → Graph → At → List ℕ → List ResultRow
equals_hits c g at vs =
    let objects = objects_of g at.focus c.value in
    each_missing at objects vs ++ each_missing at vs objects
