use Rattle.std.specs.Prelude.{length}
use Rattle.shape_order.specs.Refs.{refs_of}
use Rattle.shape_order.proofs.LevelLemmas.{level_steps}
use Rattle.shape_order.proofs.laws.levels_are_the_longest_chains.Goals as goal

pub returns : goal.returns
returns c = λ refs level within levels k i h.
    level_steps (refs_of refs) (length refs) within level levels k i h
