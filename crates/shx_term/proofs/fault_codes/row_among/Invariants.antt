use Rattle.std.specs.Prelude.{◌≡◌, map, drop}
use Rattle.shx_term.specs.FaultCodes.{row_among, told_row}
use Rattle.shx_term.proofs.fault_codes.row_among.Given as goal

-- what is left of the rows has the same answer
abbrev pub invariant-loop-row : goal.invariant-loop-row
invariant-loop-row l =
    row_among (map told_row (drop l.row-index l.rows)) l.code ≡ row_among (map told_row l.rows) l.code
