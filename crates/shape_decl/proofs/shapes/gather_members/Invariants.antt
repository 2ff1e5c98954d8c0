use Rattle.std.specs.Prelude.{◌≡◌, ◌++◌, flat_map, take}
use Rattle.shape_decl.specs.inner.Gathered.{members_at}
use Rattle.shape_decl.specs.inner.Kept.{AreReadingsOf}
use Rattle.shape_decl.proofs.shapes.gather_members.Given as goal

abbrev pub invariant-loop-head : goal.invariant-loop-head
invariant-loop-head g l = record {
  found : l.found.items
      ≡ l.fn.found.items ++ flat_map (members_at (g.V.GraphView.graph l.graph)) (take l.head-index l.heads);
  known : AreReadingsOf (g.V.GraphView.graph l.graph) l.readings;
}
