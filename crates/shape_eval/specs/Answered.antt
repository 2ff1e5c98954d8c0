-- Answers that are found by hash.
use Rattle.std.specs.Prelude.{Option}
use Rattle.std.specs.Option.{option_map}
use Rattle.indexmap.specs.IndexMap.{get}
use Rattle.comp_core.specs.Memo.{Remembered, remembered_of}
use Rattle.comp_core.specs.declared.pair.Pair.{Pair}
use Rattle.comp_core.specs.Pairs.{same_pair}
use Rattle.shape_eval.specs.declared.answers.Answers.{Answers}

-- what is remembered of a pair
abbrev pub answered : {N : Type 0} → Answers N → Pair → Option (Remembered N)
answered answers p = option_map remembered_of (get same_pair answers.answers p)
