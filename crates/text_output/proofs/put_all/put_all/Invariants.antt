use Rattle.std.proofs.Common.{length}
use Rattle.text_output.specs.Writes.{Sent}
use Rattle.text_output.proofs.put_all.put_all.Given as goal

abbrev pub invariant-loop-rest : goal.invariant-loop-rest
invariant-loop-rest g l = Sent (g.O.Sink.state l.fn.out) (g.O.Sink.state l.out) l.text l.rest

abbrev pub decreases-loop-rest : goal.decreases-loop-rest
decreases-loop-rest g l = length l.rest
