use Rattle.std.proofs.Common.{◌≡◌, flat_map}
use Rattle.shacl_drill.specs.Texts.{mark_line, nodes}
use Rattle.shacl_drill.proofs.texts.script_text.Given as goal

abbrev pub invariant-loop-node : goal.invariant-loop-node
invariant-loop-node l = l.text.items ≡ flat_map mark_line (nodes l.node)
