use Rattle.std.proofs.Common.{◌≡◌, ◌==◌, false, arith}
use Rattle.std.proofs.lemmas.Bool.Decides.{nat_tests}
use Rattle.shx_term.proofs.PieceLemmas.{three_in_turn}
use Rattle.report_write.proofs.report.add_first_line.Goals as goal

pub returns : goal.returns
returns g c =
    let some : (c.args.count == 0) ≡ false = grind (arith, nat_tests, c.if-count-eq0.false) in
    rw some
    (three_in_turn g.met.W.Pieces.added_in_turn c.add-2.ensures c.add_number.ensures c.add-3.ensures)
