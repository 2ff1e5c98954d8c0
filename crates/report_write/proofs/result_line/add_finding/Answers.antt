use Rattle.shx_term.proofs.PieceLemmas.{three_in_turn}
use Rattle.report_write.proofs.result_line.add_finding.Goals as goal

pub returns : goal.returns
returns g c =
    let in_turn = g.met.W.Pieces.added_in_turn in
    let front = three_in_turn in_turn c.add_source.ensures c.add.ensures c.add_result_path.ensures in
    let line = three_in_turn in_turn front c.add-2.ensures c.add_optional.ensures in
    in_turn _ _ _ _ _ line c.add-3.ensures
