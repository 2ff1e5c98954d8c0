use Rattle.report_write.proofs.result_block.add_path_property.Goals as goal

pub returns-in-None-Some : goal.returns-in-None-Some
returns-in-None-Some g c =
    rw (c.in-None-Some.is-0, c.in-None-Some.is-1)
    (g.met.W.Pieces.added_in_turn _ _ _ _ _ c.open_property.ensures (rw c.path.ensures at c.add_path.ensures))
