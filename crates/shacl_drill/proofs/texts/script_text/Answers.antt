use Rattle.std.proofs.Common.{[]}
use Rattle.shacl_drill.specs.Texts.{mark_line}
use Rattle.shacl_drill.proofs.TextLemmas.{lines-pushed}
use Rattle.shacl_drill.proofs.texts.script_text.Goals as goal

pub loop-node-preserved : goal.loop-node-preserved
loop-node-preserved c =
    lines-pushed [] _ _ mark_line c.loop-node.node c.loop-node.invariant c.in_ok-push_mark_line.ensures
