use Rattle.report_write.proofs.answer.add_refusal.Goals as goal

pub returns : goal.returns
returns g c = g.met.W.Pieces.added_in_turn _ _ _ _ _ c.add_refusal_head.ensures c.add.ensures
