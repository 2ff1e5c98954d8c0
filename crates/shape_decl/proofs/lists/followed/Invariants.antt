use Rattle.std.proofs.Common.{◌-◌, length}
use Rattle.shape_decl.specs.Lists.{cell_at}
use Rattle.shape_decl.specs.inner.Kept.{AreReadingsOf}
use Rattle.shape_decl.proofs.FollowsLemmas.{Follows}
use Rattle.shape_decl.proofs.lists.followed.Given as goal

abbrev pub invariant-cells : goal.invariant-cells
invariant-cells g l = record {
  follows : Follows (cell_at (g.V.GraphView.graph l.graph)) l.head l.members.items l.seen.keys l.at;
  known : AreReadingsOf (g.V.GraphView.graph l.graph) l.readings;
}

abbrev pub decreases-cells : goal.decreases-cells
decreases-cells g l = length (g.V.GraphView.graph l.graph).triples - length l.seen.keys
