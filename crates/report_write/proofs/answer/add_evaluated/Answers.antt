use Rattle.shx_term.proofs.PieceLemmas.{three_in_turn}
use Rattle.report_write.proofs.answer.add_evaluated.Goals as goal

pub returns : goal.returns
returns g c =
    three_in_turn g.met.W.Pieces.added_in_turn c.add.ensures c.add_number.ensures c.add-2.ensures
