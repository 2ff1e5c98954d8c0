use Rattle.std.specs.Prelude.{◌≡◌, map, take, slice_index}
use Rattle.shape_order.specs.Levels.{above}
use Rattle.shape_order.proofs.levels.level_above.Given as goal

abbrev pub invariant-loop-shape : goal.invariant-loop-shape
invariant-loop-shape l = l.level ≡ above (map (slice_index l.levels) (take l.shape-index l.shapes))
