use Rattle.std.specs.Prelude.{◌≡◌, map}
use Rattle.shape_decl.specs.Declarations.{told_values}
use Rattle.shape_decl.proofs.ValuesLemmas.{values_below}
use Rattle.shape_decl.proofs.declaring.declared_values.Given as goal

abbrev pub invariant-loop-predicate : goal.invariant-loop-predicate
invariant-loop-predicate g l =
    map told_values l.found.items ≡ values_below (g.V.GraphView.graph l.graph) l.node l.predicate
