use Rattle.shx_term.proofs.PieceLemmas.{three_in_turn}
use Rattle.report_write.proofs.result_block.open_property.Goals as goal

pub returns : goal.returns
returns g c =
    let before = rw c.as_bytes.ensures.value at c.add.ensures in
    let name = rw c.as_bytes-2.ensures.value at c.add-2.ensures in
    three_in_turn g.met.W.Pieces.added_in_turn before name c.add-3.ensures
