use Rattle.std.proofs.Common.{◌≡◌, ◌++◌}
use Rattle.std.specs.Prelude.{take}
use Rattle.qualified_shapes.specs.Closed.{closed_at, closed_reads}
use Rattle.qualified_shapes.proofs.triples.check_closed.Given as goal

abbrev pub invariant-loop-v : goal.invariant-loop-v
invariant-loop-v g l = record {
  rows : l.out.items
      ≡ l.fn.out.items
      ++ closed_at l.permitted l.ignored (g.V.GraphView.graph l.view) l.at (take l.v-index l.values);
  reads : g.N.Notes.notes l.fn.reads l.reads (closed_reads (take l.v-index l.values));
}
