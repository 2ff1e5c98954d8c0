use Rattle.std.specs.Prelude.{take}
use Rattle.shape_eval.specs.Answered.{answered}
use Rattle.read_records.specs.Recall.{kept_of}
use Rattle.edit_engine.proofs.CopyingLemmas.{AreCopiedOf}
use Rattle.edit_engine.proofs.swapping.answers_after.Given as goal

abbrev pub invariant-loop-pair : goal.invariant-loop-pair
invariant-loop-pair l =
    AreCopiedOf l.swap (kept_of l.recall) (answered l.answers) (take l.pair-index l.pair-items)
