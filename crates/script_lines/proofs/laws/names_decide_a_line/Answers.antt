use Rattle.script_lines.proofs.SameNamesLemmas.{line_read}
use Rattle.script_lines.proofs.laws.names_decide_a_line.Goals as goal

pub returns : goal.returns
returns c = λ limits a b line reading same is. line_read a b same line limits reading is
