use Rattle.std.specs.Prelude.{length}
use Rattle.shape_order.specs.Refs.{refs_of}
use Rattle.shape_order.proofs.LevelLemmas.{AreLeveled}
use Rattle.shape_order.proofs.levels.levels_of.Given as goal

abbrev pub invariant-loop-shape : goal.invariant-loop-shape
invariant-loop-shape l = AreLeveled (refs_of l.refs) (length l.refs) l.order l.shape-index l.levels.items
