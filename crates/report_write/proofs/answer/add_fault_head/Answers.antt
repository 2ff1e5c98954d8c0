use Rattle.shx_term.proofs.PieceLemmas.{four_in_turn}
use Rattle.report_write.proofs.answer.add_fault_head.Goals as goal

pub returns : goal.returns
returns g c =
    let name = rw (c.as_bytes.ensures.value, c.role_name.ensures) at c.add-2.ensures in
    four_in_turn g.met.W.Pieces.added_in_turn c.add.ensures name c.add-3.ensures c.add_code.ensures
