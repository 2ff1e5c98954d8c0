use Rattle.std.proofs.Common.{◌+◌, ◌-◌, length}
use Rattle.text_input.specs.inner.Rest.{HasRead}
use Rattle.text_input.proofs.text.read_rest.Given as goal

abbrev pub invariant-loop-count : goal.invariant-loop-count
invariant-loop-count g l = let I = g.I.Inputs in
    HasRead l.role l.most (I.state l.fn.host) (I.state l.host) (I.admits l.fn.host) (I.admits l.host)
    l.text.items

abbrev pub decreases-loop-count : goal.decreases-loop-count
decreases-loop-count g l = l.most + 1 - length l.text.items
