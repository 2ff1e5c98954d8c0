use Rattle.shacl_drill.proofs.TextLemmas.{three_pushed}
use Rattle.shacl_drill.proofs.texts.push_mark_line.Goals as goal

pub returns : goal.returns
returns c =
    three_pushed c.extend_from_slice-2.result _ _ _ _ _ _ _ c.in_ok-extend_from_slice.ensures.items
    c.in_ok-push_node_name.ensures c.extend_from_slice-2.ensures.items
