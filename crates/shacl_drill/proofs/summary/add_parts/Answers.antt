use Rattle.shx_term.proofs.PieceLemmas.{three_in_turn, four_in_turn}
use Rattle.shacl_drill.proofs.summary.add_parts.Goals as goal

pub returns : goal.returns
returns g c =
    let in_turn = g.met.W.Pieces.added_in_turn in
    let front = four_in_turn in_turn c.add.ensures c.add-2.ensures c.add-3.ensures c.add-4.ensures in
    let whole = three_in_turn in_turn front c.add-5.ensures c.add-6.ensures in
    rw (← c.part.ensures, ← c.part-2.ensures, ← c.part-3.ensures) whole
