use Rattle.std.specs.Prelude.{IsTrue, drop}
use Rattle.comp_core.specs.Table.{has_pair}
use Rattle.eval_rows.proofs.tests.told.is_held.Given as goal

-- what is left of the answers has no pair that they all do not have
abbrev pub invariant-loop-answered : goal.invariant-loop-answered
invariant-loop-answered l =
    IsTrue (has_pair (drop l.answered-index l.answers) l.pair) → IsTrue (has_pair l.answers l.pair)
