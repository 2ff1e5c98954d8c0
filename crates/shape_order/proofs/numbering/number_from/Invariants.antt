use Rattle.std.specs.Prelude.{◌+◌, ◌-◌, ◌*◌, length}
use Rattle.shape_order.specs.Refs.{refs_of}
use Rattle.shape_order.proofs.NumberingLemmas.{Numbers}
use Rattle.shape_order.proofs.numbering.number_from.Given as goal

abbrev pub invariant-loop-visit : goal.invariant-loop-visit
invariant-loop-visit l =
    Numbers (refs_of l.refs) (length l.refs) l.fn.order l.fn.root l.order l.seen l.visits.items

-- those that may still be met, and those on the way
abbrev pub decreases-loop-visit : goal.decreases-loop-visit
decreases-loop-visit l = length l.visits.items + 2 * (length l.refs - length l.seen)
