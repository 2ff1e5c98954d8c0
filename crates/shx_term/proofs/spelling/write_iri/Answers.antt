use Rattle.shx_term.proofs.PieceLemmas.{three_in_turn}
use Rattle.shx_term.proofs.spelling.write_iri.Goals as goal

pub returns : goal.returns
returns g c =
    let iri = rw (c.as_bytes.ensures.value, c.as_str.ensures) at c.add-2.ensures in
    three_in_turn g.met.W.Pieces.added_in_turn c.add.ensures iri c.add-3.ensures
