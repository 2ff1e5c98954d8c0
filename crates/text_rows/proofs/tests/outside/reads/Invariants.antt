use Rattle.std.proofs.Common.{◌≡◌, true}
use Rattle.text_rows.proofs.tests.outside.reads.Given as goal

abbrev pub invariant-loop : goal.invariant-loop
invariant-loop g l = (g.I.Inputs.state l.inputs).opened l.role ≡ true
