use Rattle.shx_term.proofs.PieceLemmas.{three_in_turn}
use Rattle.report_write.proofs.result_line.add_lines.Goals as goal

pub returns : goal.returns
returns g c =
    let found = rw c.without_details.ensures at c.add_finding.ensures in
    let messages = rw c.deref.ensures.value at c.add_messages.ensures in
    let details = rw c.as_slice.ensures at c.add_details.ensures in
    three_in_turn g.met.W.Pieces.added_in_turn found messages details
