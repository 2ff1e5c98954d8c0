use Rattle.shx_term.proofs.PieceLemmas.{three_in_turn, four_in_turn}
use Rattle.report_write.proofs.answer.add_rule.Goals as goal

pub returns : goal.returns
returns g c =
    let in_turn = g.met.W.Pieces.added_in_turn in
    let front = three_in_turn in_turn c.add_shape_fault_head.ensures c.add.ensures c.add_term.ensures in
    four_in_turn in_turn front c.add-2.ensures c.add_term-2.ensures c.add-3.ensures
