use Rattle.std.proofs.Common.{codes, flat_map, take}
use Rattle.text_output.specs.TermTexts.{number_text}
use Rattle.report_write.specs.ResultBlocks.{property_text}
use Rattle.report_write.proofs.result_block.add_message_properties.Given as goal

abbrev pub invariant-loop-message : goal.invariant-loop-message
invariant-loop-message g l =
    g.W.Pieces.added l.fn.out l.out
    (flat_map (λ message. property_text l.before (codes "resultMessage") (number_text l.pool.terms message))
    (take l.message-index l.messages))
