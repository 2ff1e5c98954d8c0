use Rattle.shx_term.proofs.PieceLemmas.{four_in_turn}
use Rattle.report_write.proofs.answer.add_triple.Goals as goal

pub returns : goal.returns
returns g c =
    let in_turn = g.met.W.Pieces.added_in_turn in
    let front = four_in_turn in_turn c.add.ensures c.add_term.ensures c.add-2.ensures c.add_term-2.ensures in
    four_in_turn in_turn front c.add-3.ensures c.add_term-3.ensures c.add-4.ensures
