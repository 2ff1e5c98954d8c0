use Rattle.std.proofs.Common.{◌≡◌, List, true}
use Rattle.std.specs.Prelude.{take, Contains}
use Rattle.graph_view.specs.declared.key.Key.{Key}
use Rattle.comp_core.specs.declared.pair.Pair.{Pair}
use Rattle.value_components.specs.Class.{class_reads}
use Rattle.shape_eval.specs.Known.{IsKnownOf}
use Rattle.shape_eval.specs.Results.{hits_of_each, reads_of_each}
use Rattle.shape_eval.proofs.checking.check_each.Given as goal

abbrev pub invariant-loop-constraint : goal.invariant-loop-constraint
invariant-loop-constraint g l = record {
  known : IsKnownOf l.known (g.V.GraphView.graph l.view);
  rows : l.rows.items
      ≡ hits_of_each (g.V.GraphView.graph l.view) (g.C.Conform.rows_of l.conform)
      (take l.constraint-index l.constraints) l.at l.values;
  reads : (r : Pair → List Key) → g.C.Conform.tells l.conform r → g.C.Noted.Notes.notes l.fn.reads l.reads
      (reads_of_each (g.V.GraphView.graph l.view) r (take l.constraint-index l.constraints) l.at l.values);
  classes : l.classes_noted ≡ true → (r : Pair → List Key) (key : Key)
      → Contains (class_reads (g.V.GraphView.graph l.view) l.values) key → Contains
      (reads_of_each (g.V.GraphView.graph l.view) r (take l.constraint-index l.constraints) l.at l.values)
      key;
}
