use Rattle.shx_term.proofs.PieceLemmas.{four_in_turn}
use Rattle.report_write.proofs.result_block.add_block.Goals as goal

pub returns : goal.returns
returns g c =
    let found = rw (c.without_details.ensures, c.deref.ensures.value) at c.add_finding.ensures in
    let details = rw c.as_slice.ensures at c.add_details.ensures in
    four_in_turn g.met.W.Pieces.added_in_turn c.add.ensures found details c.add-2.ensures
