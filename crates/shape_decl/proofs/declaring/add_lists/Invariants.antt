use Rattle.std.specs.Prelude.{◌≡◌, ◌++◌, map, take}
use Rattle.shape_decl.specs.Declarations.{told_list, list_reading}
use Rattle.shape_decl.specs.inner.Kept.{AreReadingsOf}
use Rattle.shape_decl.proofs.declaring.add_lists.Given as goal

abbrev pub invariant-loop-head : goal.invariant-loop-head
invariant-loop-head g l = record {
  lists : map told_list l.found.items
      ≡ map told_list l.fn.found.items
      ++ map (list_reading (g.V.GraphView.graph l.graph)) (take l.head-index l.heads);
  known : AreReadingsOf (g.V.GraphView.graph l.graph) l.readings;
}
