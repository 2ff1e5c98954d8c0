use Rattle.report_write.proofs.result_block.add_term_property.Goals as goal

pub returns : goal.returns
returns g c = g.met.W.Pieces.added_in_turn _ _ _ _ _ c.open_property.ensures c.add_term.ensures
