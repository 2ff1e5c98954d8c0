use Rattle.report_write.proofs.report.add_opening.Goals as goal

pub returns : goal.returns
returns g c =
    let word = rw (c.as_bytes.ensures.value, c.conforms.ensures) at c.add-2.ensures in
    g.met.W.Pieces.added_in_turn _ _ _ _ _ c.add.ensures word
