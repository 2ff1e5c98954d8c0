use Rattle.std.proofs.Common.{◌≡◌, drop}
use Rattle.std.specs.Prelude.{IsTrue}
use Rattle.comp_core.specs.Table.{has_pair, first_answered}
use Rattle.comp_core.proofs.table.AnswerTable.answered.Given as goal

-- what is left of the answers has the pair, and the same first answer for it
abbrev pub invariant-loop-answered : goal.invariant-loop-answered
invariant-loop-answered l = record {
  first : first_answered l.self.answers.items l.pair
      ≡ first_answered (drop l.answered-index l.self.answers.items) l.pair;
  has : IsTrue (has_pair (drop l.answered-index l.self.answers.items) l.pair);
}
