use Rattle.std.proofs.Common.{◌≡◌, ◌≤◌, ◌∷◌}
use Rattle.std.specs.Prelude.{List, take}
use Rattle.graph_view.specs.declared.key.Key.{Key}
use Rattle.comp_core.specs.declared.pair.Pair.{Pair}
use Rattle.comp_core.specs.Asking.{asked_keys}
use Rattle.qualified_shapes.specs.Qualified.{qualified_count}
use Rattle.qualified_shapes.proofs.qualified.qualified_count.Given as goal

abbrev pub invariant-loop-v : goal.invariant-loop-v
invariant-loop-v g l = record {
  few : l.count ≤ l.v-index;
  count : l.count
      ≡ qualified_count (g.C.Conform.rows_of l.conform) l.shape l.siblings (take l.v-index l.values);
  reads : (r : Pair → List Key) → g.C.Conform.tells l.conform r
      → g.C.Noted.Notes.notes l.fn.reads l.reads
      (asked_keys r (l.shape ∷ l.siblings) (take l.v-index l.values));
}
