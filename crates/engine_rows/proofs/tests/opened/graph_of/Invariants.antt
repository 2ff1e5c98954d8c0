use Rattle.std.specs.Prelude.{◌≡◌}
use Rattle.engine_rows.proofs.tests.opened.graph_of.Given as goal

abbrev pub invariant-loop-t : goal.invariant-loop-t
invariant-loop-t l = l.graph.pool.terms ≡ l.fn.pool.terms
