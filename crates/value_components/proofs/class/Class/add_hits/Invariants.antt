use Rattle.std.proofs.Common.{◌≡◌, ◌++◌}
use Rattle.std.specs.Prelude.{take}
use Rattle.path_eval.specs.Superclasses.{AreSuperclassesOf}
use Rattle.value_components.specs.Class.{class_hits, class_reads}
use Rattle.value_components.proofs.class.Class.add_hits.Given as goal

abbrev pub invariant-loop-v : goal.invariant-loop-v
invariant-loop-v g l = record {
  known : AreSuperclassesOf l.known (g.V.GraphView.graph l.view);
  rows : l.out.items
      ≡ l.fn.out.items ++ class_hits l.self (g.V.GraphView.graph l.view) l.at (take l.v-index l.values);
  reads : g.N.Notes.notes l.fn.reads l.reads
      (class_reads (g.V.GraphView.graph l.view) (take l.v-index l.values));
}
