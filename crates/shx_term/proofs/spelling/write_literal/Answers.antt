use Rattle.shx_term.proofs.PieceLemmas.{four_in_turn}
use Rattle.shx_term.proofs.spelling.write_literal.Goals as goal

pub returns : goal.returns
returns g c =
    let form = rw (c.as_bytes.ensures.value, c.as_str.ensures) at c.write_escaped.ensures in
    four_in_turn g.met.W.Pieces.added_in_turn c.add.ensures form c.add-2.ensures c.write_kind.ensures
