use Rattle.std.proofs.Common.{◌≡◌}
use Rattle.std.specs.Prelude.{map, take}
use Rattle.comp_core.specs.Rows.{detail_of}
use Rattle.comp_core.proofs.detail.Details.of.Given as goal

abbrev pub invariant-loop-row : goal.invariant-loop-row
invariant-loop-row l = l.details.items ≡ map detail_of (take l.row-index l.rows)
