use Rattle.std.proofs.Common.{◌≡◌, ◌≤◌, List}
use Rattle.std.specs.Prelude.{take, flat_map}
use Rattle.graph_view.specs.declared.key.Key.{Key}
use Rattle.comp_core.specs.declared.pair.Pair.{Pair}
use Rattle.comp_core.specs.Asking.{pairs_at, conforming_of}
use Rattle.comp_core.proofs.asking.conforming.Given as goal

abbrev pub invariant-loop-shape : goal.invariant-loop-shape
invariant-loop-shape g l = record {
  few : l.count ≤ l.shape-index;
  count : l.count ≡ conforming_of (g.C.Conform.rows_of l.conform) (take l.shape-index l.shapes) l.node;
  reads : (r : Pair → List Key) → g.C.Conform.tells l.conform r
      → g.C.Noted.Notes.notes l.fn.reads l.reads
      (flat_map r (pairs_at (take l.shape-index l.shapes) l.node));
}
