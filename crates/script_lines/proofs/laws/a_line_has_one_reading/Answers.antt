use Rattle.script_lines.proofs.OneReadingLemmas.{one_reading}
use Rattle.script_lines.proofs.laws.a_line_has_one_reading.Goals as goal

pub returns : goal.returns
returns c = λ limits document line a b read also. one_reading limits document line a b read also
