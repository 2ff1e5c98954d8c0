use Rattle.std.proofs.Common.{ℕ, codes, subst, sym}
use Rattle.text_output.specs.TermTexts.{number_text}
use Rattle.report_write.specs.ResultBlocks.{property_text}
use Rattle.report_write.proofs.RowLemmas.{texts_more}
use Rattle.report_write.proofs.result_block.add_message_properties.Goals as goal

pub loop-message-preserved : goal.loop-message-preserved
loop-message-preserved g c =
    let terms = c.args.pool.now.terms in
    let text = λ (message : ℕ).
    property_text c.args.before.now (codes "resultMessage") (number_text terms message) in
    subst (g.W.Pieces.added c.args.out.now c.add_term_property.new.out)
    (sym (texts_more text c.args.messages.now c.loop-message.message-index 0 c.loop-message-test.true))
    (g.met.W.Pieces.added_in_turn _ _ _ _ _ c.loop-message.invariant c.add_term_property.ensures)
