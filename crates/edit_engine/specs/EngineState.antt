-- What is known of an engine.
use Rattle.std.specs.Prelude.{ℕ}
use Rattle.graph_view.specs.Graph.{Graph}
use Rattle.shape_eval.specs.Plan.{Planned}
use Rattle.edit_engine.specs.Remembered.{Remembering}

-- the plan, the graph on which its report is kept, how many terms and triples that may hold, what is
-- remembered of nested pairs, and how many of the terms are settled: the triples, the plan, and all that is
-- kept are of these alone
pub record EngineState : Type 0 where
  pub plan : Planned
  pub graph : Graph
  pub term_limit : ℕ
  pub triple_limit : ℕ
  pub remembered : Remembering
  pub settled : ℕ
