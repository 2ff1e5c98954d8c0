use Rattle.std.proofs.Common.{◌≡◌, ◌++◌, flat_map}
use Rattle.shacl_drill.specs.Texts.{next_line, nodes, prefixes}
use Rattle.shacl_drill.proofs.texts.data_text.Given as goal

abbrev pub invariant-loop-node : goal.invariant-loop-node
invariant-loop-node l = l.text.items ≡ prefixes ++ flat_map (next_line l.size) (nodes l.node)
