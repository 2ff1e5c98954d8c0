use Rattle.shx_term.proofs.PieceLemmas.{three_in_turn, four_in_turn}
use Rattle.shacl_drill.proofs.summary.add_summary.Goals as goal

pub returns : goal.returns
returns g c =
    let in_turn = g.met.W.Pieces.added_in_turn in
    let edits = four_in_turn in_turn c.add.ensures c.add_number.ensures c.add-2.ensures
    c.add_number-2.ensures in
    let changed = four_in_turn in_turn edits c.add-3.ensures c.add_number-3.ensures c.add-4.ensures in
    let counted = four_in_turn in_turn changed c.add_number-4.ensures c.add_count.ensures c.add-5.ensures in
    rw (← c.tally.view_is) (three_in_turn in_turn counted c.add_number-5.ensures c.add-6.ensures)
