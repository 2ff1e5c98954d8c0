use Rattle.std.specs.Prelude.{◌-◌, ◌^◌}
use Rattle.read_records.proofs.PartLemmas.{Gathered}
use Rattle.read_records.proofs.recall.Recall.all_read.Given as goal

abbrev pub invariant-loop-at : goal.invariant-loop-at
invariant-loop-at l = Gathered l.self l.reads l.answers.keys l.all l.at

-- no more pairs than numbers of 64 bits were found
abbrev pub decreases-loop-at : goal.decreases-loop-at
decreases-loop-at l = 2 ^ 64 - l.at
