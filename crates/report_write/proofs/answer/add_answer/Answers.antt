use Rattle.report_write.proofs.answer.add_answer.Goals as goal

pub returns : goal.returns
returns g c =
    let start = rw (c.as_bytes.ensures.value, c.line_start.ensures) at c.add.ensures in
    g.met.W.Pieces.added_in_turn _ _ _ _ _ start c.add_line.ensures
