use Rattle.std.specs.Prelude.{All}
use Rattle.shx_term.specs.Edit.{IsValidEdit}
use Rattle.engine_rows.proofs.tests.edits.edits_of.Given as goal

abbrev pub invariant-loop-line : goal.invariant-loop-line
invariant-loop-line l = All IsValidEdit l.edits.items
