-- sh:disjoint (SHACL, section 4.5.2).
use Rattle.std.specs.Prelude.{ℕ, List, not}
use Rattle.graph_view.specs.Graph.{Graph, objects_of}
use Rattle.comp_core.specs.declared.pair.At.{At}
use Rattle.comp_core.specs.declared.row.ResultRow.{ResultRow}
use Rattle.comp_core.specs.declared.kinds.TheConstants.{DISJOINT}
use Rattle.comp_core.specs.Results.{each_unless}
use Rattle.comp_core.specs.TermTests.{is_among}
use Rattle.pair_components.specs.declared.disjoint.Disjoint.{Disjoint}

-- a result for each value node that is an object of the predicate
abbrev pub disjoint_hits : Disjoint → Graph → At → List ℕ → List ResultRow
disjoint_hits c g at vs = each_unless (λ v. not (is_among v (objects_of g at.focus c.value))) DISJOINT at vs
