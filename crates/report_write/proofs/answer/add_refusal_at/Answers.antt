use Rattle.shx_term.proofs.PieceLemmas.{four_in_turn}
use Rattle.report_write.proofs.answer.add_refusal_at.Goals as goal

pub returns : goal.returns
returns g c =
    four_in_turn g.met.W.Pieces.added_in_turn c.add_refusal_head.ensures c.add.ensures c.add_number.ensures
    c.add-2.ensures
