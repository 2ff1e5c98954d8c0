use Rattle.report_write.proofs.result_block.add_finding.Goals as goal

pub returns : goal.returns
returns g c = g.met.W.Pieces.added_in_turn _ _ _ _ _ c.add_found.ensures c.add_origin.ensures
