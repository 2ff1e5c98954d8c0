use Rattle.shx_term.proofs.PieceLemmas.{three_in_turn, four_in_turn}
use Rattle.report_write.proofs.result_line.add_source.Goals as goal

pub returns : goal.returns
returns g c =
    let in_turn = g.met.W.Pieces.added_in_turn in
    let word = rw c.as_bytes.ensures.value at c.add.ensures in
    let name = rw (c.as_bytes-2.ensures.value, c.component_name.ensures) at c.add-3.ensures in
    let front = four_in_turn in_turn word c.add-2.ensures name c.add-4.ensures in
    let middle = three_in_turn in_turn front c.add_severity.ensures c.add-5.ensures in
    four_in_turn in_turn middle c.add_term.ensures c.add-6.ensures c.add_term-2.ensures
