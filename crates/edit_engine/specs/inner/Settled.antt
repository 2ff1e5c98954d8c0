-- Terms that are settled: the first so many, of which the triples, the plan and all that is kept are.
use Rattle.std.specs.Prelude.{ℕ, ◌<◌, ◌≤◌, length, take}
use Rattle.graph_view.specs.Graph.{Graph}
use Rattle.comp_core.specs.declared.pair.Pair.{Pair}
use Rattle.shape_eval.specs.Plan.{Planned}
use Rattle.shape_eval.specs.Recalled.{IsRecalled}
use Rattle.read_records.specs.Recall.{kept_of}
use Rattle.edit_engine.specs.MayBeAsked.{MayBeAsked}
use Rattle.edit_engine.specs.declared.kept.Kept.{Kept}

-- the same triples over the first so many terms
abbrev pub of_first : ℕ → Graph → Graph
of_first n g = record { terms = take n g.terms; triples = g.triples }

-- the plan may be asked of the settled terms, and what is remembered is of nodes among them; of the targets,
-- the pairs and their results this follows
pub record IsSettled (plan : Planned) (g : Graph) (kept : Kept) (settled : ℕ) : Type 0 where
  pub vocabulary : 62 ≤ settled
  pub within : settled ≤ length g.terms
  pub asked : MayBeAsked plan (of_first settled g)
  pub remembered : (p : Pair) → IsRecalled (kept_of kept.recall) p → p.node < settled
