use Rattle.shx_term.proofs.PieceLemmas.{three_in_turn}
use Rattle.report_write.proofs.answer.add_code.Goals as goal

pub returns : goal.returns
returns g c =
    let name = rw (c.as_bytes.ensures.value, c.code_name.ensures) at c.add-2.ensures in
    three_in_turn g.met.W.Pieces.added_in_turn c.add_number.ensures c.add.ensures name
