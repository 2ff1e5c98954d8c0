use Rattle.std.specs.Prelude.{[], take}
use Rattle.path_eval.specs.inner.Rows.{IsByPlace}
use Rattle.path_eval.proofs.rows.by_place.Given as goal

abbrev pub invariant-loop-place : goal.invariant-loop-place
invariant-loop-place l = IsByPlace l.rows.items []

abbrev pub invariant-loop-edge : goal.invariant-loop-edge
invariant-loop-edge l = IsByPlace l.rows.items (take l.edge-index l.edges)
