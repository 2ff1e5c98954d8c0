use Rattle.shx_term.proofs.PieceLemmas.{three_in_turn}
use Rattle.report_write.proofs.result_block.add_component_property.Goals as goal

pub returns : goal.returns
returns g c =
    let in_turn = g.met.W.Pieces.added_in_turn in
    let name = rw (c.as_bytes.ensures.value, c.component_name.ensures) at c.add-2.ensures in
    in_turn _ _ _ _ _ c.open_property.ensures (three_in_turn in_turn c.add.ensures name c.add-3.ensures)
