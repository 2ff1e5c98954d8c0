use Rattle.std.proofs.Common.{◌≡◌, ◌++◌}
use Rattle.std.specs.Prelude.{List, take, [], ◌∷◌}
use Rattle.graph_view.specs.declared.key.Key.{Key}
use Rattle.comp_core.specs.declared.pair.Pair.{Pair}
use Rattle.comp_core.specs.Asking.{asked_keys}
use Rattle.logic_components.specs.Node.{node_hits}
use Rattle.logic_components.proofs.node.NodeComponent.check.Given as goal

abbrev pub invariant-loop-v : goal.invariant-loop-v
invariant-loop-v g l = record {
  rows : l.out.items
      ≡ l.fn.out.items ++ node_hits l.self (g.C.Conform.rows_of l.conform) l.at (take l.v-index l.values);
  reads : (r : Pair → List Key) → g.C.Conform.tells l.conform r
      → g.C.Noted.Notes.notes l.fn.reads l.reads
      (asked_keys r (l.self.shape ∷ []) (take l.v-index l.values));
}
