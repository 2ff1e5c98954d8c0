use Rattle.std.proofs.Common.{flat_map, take}
use Rattle.report_write.specs.ResultLines.{message_text}
use Rattle.report_write.proofs.result_line.add_messages.Given as goal

abbrev pub invariant-loop-message : goal.invariant-loop-message
invariant-loop-message g l =
    g.W.Pieces.added l.fn.out l.out
    (flat_map (message_text l.pool.terms) (take l.message-index l.messages))
