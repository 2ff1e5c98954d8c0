use Rattle.shx_term.specs.IdOrder.{in_term_order}
use Rattle.shape_eval.specs.Plan.{is_targeted, nodes_of}
use Rattle.shape_eval.proofs.PlaceLemmas.{numbers_within}
use Rattle.std.specs.Prelude.{filter}
use Rattle.edit_engine.proofs.PlanLemmas.{targeted_once}
use Rattle.edit_engine.proofs.laws.plans_target_shapes_once.Goals as goal

pub returns-clause-within : goal.returns-clause-within
returns-clause-within c terms shapes plan =
    numbers_within shapes (in_term_order terms (nodes_of (filter is_targeted shapes)))

pub returns-clause-once : goal.returns-clause-once
returns-clause-once c terms shapes plan = targeted_once terms shapes
