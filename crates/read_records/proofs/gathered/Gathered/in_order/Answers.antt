use Rattle.read_records.proofs.FiledLemmas.{AreTargets-same, Stands-same}
use Rattle.read_records.proofs.gathered.Gathered.in_order.Goals as goal

pub of_trees-requires : goal.of_trees-requires
of_trees-requires c = AreTargets-same c.in_ok-targets.ensures c.self.invariant

pub returns : goal.returns
returns c =
    rw (c.of_trees.ensures, ← c.self.view_is)
    (Stands-same c.self.inside.targets c.self.inside.pairs c.in_ok-targets.ensures c.in_ok-pairs.ensures)
