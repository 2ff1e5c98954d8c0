use Rattle.std.proofs.Common.{length, subst, sym}
use Rattle.report_write.specs.declared.answer.Answer.TheVariants.{Slice, SliceTriple}
use Rattle.report_write.specs.Answers.{answer_text}
use Rattle.report_write.proofs.RowLemmas.{headed_more}
use Rattle.report_write.proofs.slice.add_answers.Goals as goal

pub loop-triple-preserved : goal.loop-triple-preserved
loop-triple-preserved g c =
    let triples = c.args.triples.now in
    let text = answer_text c.args.format c.args.pool.now.terms in
    subst (g.W.Pieces.added c.args.out.now c.add_answer-in-loop-triple.new.out)
    (sym (headed_more text SliceTriple (Slice (length triples)) triples c.loop-triple.triple-index _
    c.loop-triple-test.true))
    (g.met.W.Pieces.added_in_turn _ _ _ _ _ c.loop-triple.invariant c.add_answer-in-loop-triple.ensures)
