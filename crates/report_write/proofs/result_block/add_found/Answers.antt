use Rattle.shx_term.proofs.PieceLemmas.{three_in_turn}
use Rattle.report_write.proofs.result_block.add_found.Goals as goal

pub returns : goal.returns
returns g c =
    three_in_turn g.met.W.Pieces.added_in_turn c.add_term_property.ensures c.add_path_property.ensures
    c.add_value_property.ensures
