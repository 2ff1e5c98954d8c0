use Rattle.shacl_drill.specs.Texts.{next_line, prefixes}
use Rattle.shacl_drill.proofs.TextLemmas.{lines-pushed}
use Rattle.shacl_drill.proofs.texts.data_text.Goals as goal

pub loop-node-preserved : goal.loop-node-preserved
loop-node-preserved c =
    lines-pushed prefixes _ _ (next_line c.args.size) c.loop-node.node c.loop-node.invariant
    c.in_ok-push_next_line.ensures
