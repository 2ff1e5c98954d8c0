use Rattle.shx_term.proofs.PieceLemmas.{four_in_turn}
use Rattle.report_write.proofs.result_block.add_origin.Goals as goal

pub returns : goal.returns
returns g c =
    four_in_turn g.met.W.Pieces.added_in_turn c.add_term_property.ensures c.add_component_property.ensures
    c.add_message_properties.ensures c.add_term_property-2.ensures
