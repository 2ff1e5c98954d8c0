use Rattle.std.proofs.Common.{rules}
use Rattle.shape_check.proofs.FaultLemmas.{faults-past}
use Rattle.shape_check.proofs.checking.too_many_nodes.Goals as goal

pub returns : goal.returns
returns c = λ terms ds of_nodes.
    rw (c.one_too_many.ensures)
    (faults-past c.args.limits.now terms ds c.args.nodes.now c.in_ok-node.node.now of_nodes (search rules)
    (search rules))
